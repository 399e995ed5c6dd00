-- Three lists laid over the front of a list, one after the other.
use Rattle.std.proofs.Common.{◌≡◌, ap, sym, ◌∙◌, List, ◌++◌, ℕ, ◌+◌, zero-add, length}
use Rattle.words.specs.Overlay.{overlay}
use Rattle.words.proofs.Overlay.{overlay-append}

module _ {A : Type 0} where
  pub three-over : (out xs ys zs : List A) → overlay (overlay (overlay out 0 xs) (length xs) ys) (length xs + length ys) zs ≡ overlay out 0 (xs ++ (ys ++ zs))
  three-over out xs ys zs =
      overlay-append (overlay out 0 xs) (length xs) ys zs
      ∙ ap (λ (n : ℕ). overlay (overlay out 0 xs) n (ys ++ zs)) (sym (zero-add (length xs)))
      ∙ overlay-append out 0 xs (ys ++ zs)
