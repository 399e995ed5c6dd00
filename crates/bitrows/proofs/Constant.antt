-- The least sum of a row term by term, and what a row's head says of it, of the constant over bits and of the row's own bits.
use Rattle.std.proofs.Common.{◌≡◌, refl, ap₂, ◌∙◌, true, false, List, [], ◌∷◌, ℕ, ◌+◌, ◌*◌, ◌<◌, add-one, arith, eqb, ℤ, length, length-append}
use Rattle.integers.specs.Number.{◌⊕◌, ◌⊗◌, +0}
use Rattle.integers.specs.Lists.{list_of}
use Rattle.integers.specs.Terms.{Term, sum}
use Rattle.integers.specs.declared.Bounds.{Bounds}
use Rattle.integers.proofs.Places.{one_more, sum_more}
use Rattle.integers.proofs.Sums.{⊕_assoc, ⊕_zero_comm}
use Rattle.words.specs.Kind as Kind
use Rattle.words.specs.Limit as Limit
use Rattle.words.specs.Word.{kind, word_at}
use Rattle.words.proofs.ReadBack.{payload-below}
use Rattle.rowsystems.specs.Row.{sum≤0, sum=0, product}
use Rattle.rowsystems.specs.RowSystem.{term_count, terms_in, constant_in, variable_at}
use Rattle.rowsystems.specs.OneWord.{row_of}
use Rattle.bitforms.specs.SumOver.{sum_over}
use Rattle.bitforms.specs.Weights.{weights}
use Rattle.bitforms.specs.BitRow.{least_term, pairs_with, pairs_of}
use Rattle.bitforms.proofs.Numbers.{with-length}
use Rattle.bittables.specs.BitTables.{span_in, bits_of}
use Rattle.bitrows.specs.Terms.{term_in}
use Rattle.bitforms.proofs.Complete.{length-weighted}

-- ---- sums term by term

pub least_more : (β : ℕ → Bounds) (args : List ℕ) (k : ℕ) → sum_over (least_term β) (terms_in args (k + 1)) ≡ sum_over (least_term β) (terms_in args k) ⊕ least_term β (term_in args k)
unfolding terms_in sum_over
least_more β args k = rw add-one (one_more (sum_over (least_term β)) ◌⊕◌ (least_term β) (λ x xs. refl) ⊕_assoc ⊕_zero_comm (term_in args) k)

pub least-none : (β : ℕ → Bounds) (args : List ℕ) → +0 ≡ sum_over (least_term β) (terms_in args 0)
unfolding terms_in sum_over list_of
least-none β args = refl

pub lower-none : (σ : ℕ → ℤ) (args : List ℕ) → +0 ≡ sum σ (terms_in args 0)
unfolding terms_in sum list_of
lower-none σ args = refl

pub lower_more : (σ : ℕ → ℤ) (args : List ℕ) (k : ℕ) → sum σ (terms_in args (k + 1)) ≡ sum σ (terms_in args k) ⊕ (term_in args k).coefficient ⊗ σ (term_in args k).variable
unfolding terms_in
lower_more σ args k = sum_more σ (term_in args) k

-- a variable's number is a payload
pub variable_below : (args : List ℕ) (i : ℕ) → variable_at args i < Limit.payloads
unfolding variable_at
variable_below args i = payload-below (word_at args i)

-- ---- by the kind of the head

module _ (head : ℕ) (args : List ℕ) where
  pub row_at_most : eqb (kind head) Kind.at_most ≡ true → row_of head args ≡ sum≤0 (terms_in args (term_count head)) (constant_in args (term_count head))
  unfolding row_of
  row_at_most e = rw e

  pub row-equal : eqb (kind head) Kind.at_most ≡ false → eqb (kind head) Kind.equal ≡ true → row_of head args ≡ sum=0 (terms_in args (term_count head)) (constant_in args (term_count head))
  unfolding row_of
  row-equal e f = rw (e, f)

  pub row-product : eqb (kind head) Kind.at_most ≡ false → eqb (kind head) Kind.equal ≡ false → row_of head args ≡ product (variable_at args 0) (variable_at args 1) (variable_at args 2)
  unfolding row_of
  row-product e f = rw (e, f)

-- ---- how many bits of its own

pairs-length : (first : ℕ) (fs gs : List (Term ℕ)) → length (pairs_of first fs gs) ≡ length fs * length gs
unfolding pairs_of
pairs-length first [] gs = omega arith
pairs-length first (f ∷ fs) gs = omega (arith, length-append (pairs_with first f gs) (pairs_of (first + length gs) fs gs), with-length first f gs, pairs-length (first + length gs) fs gs)

pub own-product : (Ds : List Bounds) (firsts : List ℕ) (first f g : ℕ) →
    length (pairs_of first (bits_of Ds firsts f) (bits_of Ds firsts g)) ≡ length (weights (span_in Ds f)) * length (weights (span_in Ds g))
unfolding bits_of
own-product Ds firsts first f g = pairs-length first _ _ ∙ ap₂ ◌*◌ (length-weighted _ _) (length-weighted _ _)
