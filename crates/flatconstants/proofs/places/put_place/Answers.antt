use Rattle.std.proofs.Common.{◌∙◌, refl, to_z-of_z}
use Rattle.flatconstants.proofs.Maps.{at_number}
use Rattle.flatconstants.proofs.places.put_place.Goals as goal

pub returns : goal.returns
returns c = λ q. at_number c.args.number q _ _ _ (c.in_ok-insert.ensures.updates.0 q ∙ rw (to_z-of_z c.ranges.number) refl)
