use Rattle.std.proofs.Common.{sym}
use Rattle.arguments.proofs.Size.{read}
use Rattle.integers.specs.Bounds.{bounds_in}
use Rattle.laying.proofs.Written.{wrote-as}
use Rattle.sharedblocks.proofs.Blocks.{numbers-row}
use Rattle.sharedblocks.proofs.SharedBlock.write_numbers_row.Goals as goal

-- The row of the places that the index can have.
pub returns : goal.returns
returns c =
    let a = rw (c.labels.ensures.value, c.first_element.ensures.value, read c.lower.type_inv c.lower.ensures.value, c.element_places-places.ensures, c.place_bit-v.ensures.value, c.var_at.ensures, c.past_at.ensures.value) at c.number_row.ensures in
    wrote-as (sym (numbers-row (bounds_in c.args.self.now.domains.now) c.args.self.now.args.now c.args.self.now.encoded.now c.args.self.now.first)) (a)
