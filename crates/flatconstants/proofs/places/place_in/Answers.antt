use Rattle.std.proofs.Common.{◌∙◌, refl, to_z-of_z}
use Rattle.flatconstants.proofs.places.place_in.Goals as goal

pub returns : goal.returns
returns c = c.copied.ensures ∙ c.get.ensures.value ∙ rw (to_z-of_z c.ranges.number) refl
