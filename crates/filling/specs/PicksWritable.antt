-- What writing the auxiliaries of a model after its values wants: what is kept of the model, values near 0, picks in the range, and a place for each that does not wrap.
use Rattle.std.specs.Prelude.{◌≡◌, List, ◌+◌, ◌<◌, ℤ, length}
use Rattle.words.specs.Variables.{variables}
use Rattle.words.specs.Small.{Small}
use Rattle.rules.specs.Translation.{picks}
use Rattle.checking.specs.ReadModel.{Listed}
use Rattle.checking.specs.declared.read.ReadModel.{ReadModel}
use Rattle.picking.specs.Output.{Ranged}
use Rattle.picking.specs.declared.Output.{Output}

abbrev pub PicksWritable : ReadModel → List ℤ → Output → Type 0
PicksWritable r vs o =
    Listed r
    × Small vs
    × Ranged (picks r.ws.now vs)
    × (o.at ≡ length (variables r.ws.now))
    × (o.at + length (picks r.ws.now vs) < 1099511627776)
