-- A model that was copied to a list of 8,192 words: the front that is lent to a call is the model.
use Rattle.std.proofs.Common.{◌≡◌, sym, ap, ◌∙◌, List, ℕ, ◌≤◌, arith, length, take}
use Rattle.words.proofs.Overlay.{front-over}
use Rattle.pairs.specs.Copied.{ModelCopied}

module _ {model : List ℕ} {n : ℕ} {out later : List ℕ} (h : ModelCopied model n out later) where
  pub front_fits : n ≤ 8192
  front_fits = omega (arith, h.count, h.fits)

  pub front : length out ≡ 8192 → take n later ≡ model
  front e = rw (h.laid, h.count) (front-over out model (omega (arith, h.fits)))

  pub front_length : length out ≡ 8192 → n ≡ length (take n later)
  front_length e = h.count ∙ sym (ap length (front e))
