-- A list pasted over another one is laid over it.
use Rattle.std.proofs.Common.{◌≡◌, ℕ, zero, suc, ◌+◌, ◌≤◌, List, [], ◌∷◌, ◌++◌, length, refl, sym, subst, ◌∙◌, arith, add-one}
use Rattle.std.proofs.Math.Seq.{paste, paste-zero, paste-suc, set_out}
use Rattle.words.specs.Overlay.{overlay}
use Rattle.words.proofs.Overlay.{overlay-append, length-overlay}
use Rattle.words.proofs.Rest.{FirstLaid, none-laid, one-laid, all_laid}

module _ {A : Type 0} where
  -- nothing is laid past the end
  pub laid-past : (out : List A) (at : ℕ) (xs : List A) → length out ≤ at → overlay out at xs ≡ out
  unfolding overlay
  laid-past out at [] h = refl
  laid-past out at (x ∷ xs) h = rw (set_out out at x h) (laid-past out (suc at) xs (omega arith))

  pasted : (d : List A) (at : ℕ) (s : List A) (z : A) (j : ℕ) → at + j ≤ length d → j ≤ length s → FirstLaid d at s (paste d at s j) j
  pasted d at s z zero h k = subst (λ (l : List A). FirstLaid d at s l 0) (paste-zero d at s) (none-laid d at s)
  pasted d at s z (suc j) h k = rw (← add-one j) (one-laid (pasted d at s z j (omega arith) (omega arith)) z (omega arith) (rw add-one (sym (paste-suc d at s j z (omega arith) (omega arith)))))

  -- where all of it fits
  pub laid-pasted : (d : List A) (at : ℕ) (s : List A) → at + length s ≤ length d → paste d at s (length s) ≡ overlay d at s
  unfolding overlay
  laid-pasted d at [] h = sym (paste-zero d at [])
  laid-pasted d at (x ∷ xs) h = (all_laid (pasted d at (x ∷ xs) x (length (x ∷ xs)) h (omega arith)) (omega arith)).over

  -- where the first part reaches the end
  pub laid-cut : (d : List A) (at : ℕ) (xs ys : List A) → length d ≤ at + length xs → overlay d at (xs ++ ys) ≡ overlay d at xs
  laid-cut d at xs ys h = sym (overlay-append d at xs ys) ∙ laid-past (overlay d at xs) (at + length xs) ys (rw (length-overlay d at xs) h)
