-- The block is laid to the front of the list; its bounds are read there and those values are theirs, counted on from `first`; or its rows, counted from k.
use Rattle.std.proofs.Common.{arith}
use Rattle.integers.specs.Terms.{value}
use Rattle.reasoning.proofs.Fronted.{outside-few, outside-said, after-bounds, rows-accepted, no-variables}
use Rattle.reasoning.proofs.one_block.judge_block.Goals as goal

pub counted_on-said-requires : goal.counted_on-said-requires
counted_on-said-requires c = (outside-few c.requires.0.readable.reads c.lay_block-laid.ensures c.args.values.now c.requires.0.there c.first_out_of_bounds-found.ensures, c.requires.0.readable.near)

pub returns-then-bounds : goal.returns-then-bounds
returns-then-bounds c = rw c.if-bounds.true (outside-said c.requires.0.readable.reads c.lay_block-laid.ensures c.args.values.now c.requires.0.there c.first_out_of_bounds-found.ensures c.counted_on-said.ensures)

pub first_false_row-said-requires : goal.first_false_row-said-requires
unfolding value
first_false_row-said-requires c = (after-bounds c.requires.0.readable.reads c.lay_block-laid.ensures, (omega (arith, c.lay_block-laid.ensures.auxiliaries, c.requires.0.there), λ x l. c.requires.0.small c.if-bounds.false x), rows-accepted c.requires.0.readable.reads c.lay_block-laid.ensures, no-variables c.requires.0.readable.reads c.lay_block-laid.ensures, omega (arith, c.lay_block-laid.ensures.small, c.requires.0.readable.near), c.requires.1)
