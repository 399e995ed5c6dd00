-- The constraints of words from a place on: the word there starts none, or starts one.
use Rattle.std.proofs.Common.{◌≡◌, ap, ◌∙◌, List, ◌∷◌, ℕ, ◌+◌, ◌<◌, length, get_or, drop, eq-eqb, ne_eqb}
use Rattle.words.specs.Word.{kind, word_at}
use Rattle.words.proofs.Reading.{word-then}
use Rattle.models.specs.Model.{headed, constraints_from}

module _ (ws : List ℕ) (at : ℕ) where
  pub starts_none : at < length ws → (kind (get_or ws at 0) ≡ 4 → ⊥) → constraints_from at (drop at ws) ≡ constraints_from (at + 1) (drop (at + 1) ws)
  unfolding constraints_from
  starts_none h f = ap (constraints_from at) (word-then ws at h) ∙ rw (ne_eqb (kind (get_or ws at 0)) 4 f)

  pub starts-one : at < length ws → kind (get_or ws at 0) ≡ 4 → constraints_from at (drop at ws) ≡ headed ws at ∷ constraints_from (at + 1) (drop (at + 1) ws)
  unfolding constraints_from word_at
  starts-one h e = ap (constraints_from at) (word-then ws at h) ∙ rw (eq-eqb (kind (get_or ws at 0)) 4 e)
