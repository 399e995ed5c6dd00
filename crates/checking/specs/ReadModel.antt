-- What is kept of a model: nothing yet; or, of one that was read without a fault, what the calls after check go by.
use Rattle.std.specs.Prelude.{◌≡◌, length}
use Rattle.words.specs.Limit as Limit
use Rattle.encodings.specs.Uses.{no_uses}
use Rattle.checking.specs.ModelBounds.{ModelBounds, ModelSums, no_bounds, no_ends}
use Rattle.checking.specs.declared.read.ReadModel.{ReadModel}

abbrev pub Unread : ReadModel → Type 0
Unread r = (length r.heads ≡ Limit.constraints) × (r.domains ≡ no_bounds) × (r.uses ≡ no_uses) × (r.sums ≡ no_ends)

-- It stays a clause and is no ghost field of the type: the same memory is a model that was not read yet (`Unread`) before check_model and while that fills
-- list after list, so that a type with the fact would be a second struct beside it, made in each call. So does that the words pass check (`Passes`).
abbrev pub Listed : ReadModel → Type 0
Listed r = ModelBounds r.ws.now r.heads r.model r.domains r.uses × ModelSums r.ws.now r.heads r.model r.domains r.sums
