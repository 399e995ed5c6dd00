-- the best of all is the best of those so far and of those that are left
use Rattle.std.proofs.Common.{◌≡◌, drop}
use Rattle.std.specs.Prelude.{map, option_map, None}
use Rattle.flattokens.specs.Token.{token}
use Rattle.flatplaces.specs.Place.{best_from}
use Rattle.flatplaces.specs.Seen.{origin}
use Rattle.flatplaces.specs.declared.places.Before.TheVariants.{Nothing}
use Rattle.flatplaces.proofs.places.place_of.Given as goal

abbrev pub invariant-loop-note : goal.invariant-loop-note
invariant-loop-note l = best_from l.folder Nothing None (map token l.notes) ≡ best_from l.folder l.before (option_map origin l.best) (map token (drop l.note-index l.notes))
