-- whether all name it is whether those that are left do
use Rattle.std.proofs.Common.{◌≡◌, drop}
use Rattle.std.specs.Prelude.{map}
use Rattle.flattokens.specs.Token.{token}
use Rattle.flatplaces.specs.Annotation.{is_noted}
use Rattle.flatplaces.proofs.annotations.is_noted.Given as goal

abbrev pub invariant-loop-note : goal.invariant-loop-note
invariant-loop-note l = is_noted l.name (map token l.notes) ≡ is_noted l.name (map token (drop l.note-index l.notes))
