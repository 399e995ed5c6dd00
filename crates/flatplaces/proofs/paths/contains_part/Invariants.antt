-- whether the part stands in the whole is whether it stands in what is left
use Rattle.std.proofs.Common.{◌≡◌, drop}
use Rattle.flatplaces.specs.Path.{contains_part}
use Rattle.flatplaces.proofs.paths.contains_part.Given as goal

abbrev pub invariant-loop-at : goal.invariant-loop-at
invariant-loop-at l = contains_part l.text l.part ≡ contains_part (drop l.at l.text) l.part
