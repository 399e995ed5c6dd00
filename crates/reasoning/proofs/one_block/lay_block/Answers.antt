-- The block and the end word are the front of the list, by `fronted`.
use Rattle.reasoning.proofs.Fronted.{fronted}
use Rattle.reasoning.proofs.one_block.lay_block.Goals as goal

pub returns : goal.returns
returns c =
    fronted c.requires.0.reads c.requires.1 c.block-laid.ensures.parts c.block-laid.ensures.size (rw (c.bits.ensures, c.new.ensures) at c.lay.ensures)
