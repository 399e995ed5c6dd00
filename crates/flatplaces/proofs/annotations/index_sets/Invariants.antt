-- the sets so far, and those that are still to come
use Rattle.std.proofs.Common.{◌≡◌, ◌++◌, drop}
use Rattle.std.specs.Prelude.{map}
use Rattle.flattokens.specs.Token.{token}
use Rattle.flatplaces.specs.Annotation.{sets_from}
use Rattle.flatplaces.specs.declared.annotations.Stage.TheVariants.{Before}
use Rattle.flatplaces.proofs.annotations.index_sets.Given as goal

abbrev pub invariant-loop-note : goal.invariant-loop-note
invariant-loop-note l = sets_from Before (map token l.notes) ≡ l.sets.items ++ sets_from l.stage (map token (drop l.note-index l.notes))
