-- What entering a word in a list of slots leaves of it.
use Rattle.std.proofs.Common.{◌≡◌, refl, ◌⊎◌, inl, inr, Bool, true, false, List, ℕ, eqb, ltb, get_or-set_same, get_or-set_other, length, get_or, set, eqb-true, ltb-true, ltb-false}
use lib.Seq.{set_out}
use borrow.Author.Tests.{eqb-false}

-- a list with one word set has at each place the word it had, or that one
pub set_either : (l : List ℕ) (i e s : ℕ) → (get_or (set l i e) s 0 ≡ get_or l s 0) ⊎ (get_or (set l i e) s 0 ≡ e)
set_either l i e s = go (eqb s i) refl (ltb i (length l)) refl
  where
    go : (a : Bool) → eqb s i ≡ a → (b : Bool) → ltb i (length l) ≡ b → (get_or (set l i e) s 0 ≡ get_or l s 0) ⊎ (get_or (set l i e) s 0 ≡ e)
    go true p true q = inr (rw (eqb-true s i p) (get_or-set_same l i e 0 (ltb-true i (length l) q)))
    go true p false q = inl (rw (set_out l i e (ltb-false i (length l) q)))
    go false p b q = inl (get_or-set_other l i s e 0 (eqb-false s i p))
