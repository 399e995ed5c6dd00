-- The loop that puts values: the first v of them are laid.
use Rattle.std.proofs.Common.{◌≡◌, refl, sym, ap, ◌∙◌, List, [], ◌∷◌, ℕ, ◌+◌, ◌≤◌, ◌<◌, zero-add, arith, length, set}
use Rattle.integers.specs.Lists.{list_of}
use Rattle.integers.proofs.Lists.{list_of-length}
use Rattle.words.specs.Overlay.{overlay}
use Rattle.words.proofs.Overlay.{overlay-append}
use Rattle.bitforms.proofs.Lists.{list-more}

module _ {A : Type 0} where
  pub record Putting (f : ℕ → A) (n : ℕ) (out₀ out : List A) (v : ℕ) : Type 0 where
    pub place : v ≤ n
    pub laid : out ≡ overlay out₀ 0 (list_of f v)

  pub putting_begun : (f : ℕ → A) (n : ℕ) (out : List A) → Putting f n out out 0
  unfolding list_of overlay
  putting_begun f n out = record { place = omega arith; laid = refl }

  pub putting_more : {f : ℕ → A} {n : ℕ} {out₀ out : List A} {v : ℕ} → v < n → Putting f n out₀ out v → Putting f n out₀ (set out v (f v)) (v + 1)
  unfolding overlay
  putting_more {f} {n} {out₀} {out} {v} l p = record {
    place = omega arith;
    laid =
        ap (λ o. set o v (f v)) p.laid
        ∙ ap (λ k. set (overlay out₀ 0 (list_of f v)) k (f v)) (sym (list_of-length f v) ∙ sym (zero-add (length (list_of f v))))
        ∙ overlay-append out₀ 0 (list_of f v) (f v ∷ []) ∙ ap (overlay out₀ 0) (sym (list-more f v));
  }
