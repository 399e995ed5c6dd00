use Rattle.arguments.proofs.Size.{read}
use Rattle.rules.specs.Parts.{places}
use Rattle.sharedblocks.proofs.SharedBlock.place_bit.Goals as goal

-- The place of the first label among the values.
pub returns-clause-value : goal.returns-clause-value
unfolding places
returns-clause-value c =
    let l = read c.lower-place.type_inv c.lower-place.ensures.value in
    rw (c.first_bit.ensures.value, c.count_of.ensures.value, read c.minus.type_inv c.minus.ensures.value, l, c.element_places.ensures, read c.lower-lower.type_inv c.lower-lower.ensures.value, c.index_of.ensures)
