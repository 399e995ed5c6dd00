-- A model that passes the check, and the form over bits of the row system that translate writes for it, share their solutions.
use Rattle.std.proofs.Common.{◌≡◌, sym, ap, ◌∙◌, subst, List, ◌++◌, ℕ, ◌+◌, ◌-◌, ◌≤◌, arith, ℤ, pos, length, length-append, get_or-append-add}
use native.Mathlib.Decide.{dec_le}
use lib.ListN.{get_or-append}
use Rattle.integers.specs.Lists.{list_of}
use Rattle.integers.specs.Bounds.{bounds_in}
use Rattle.integers.specs.Terms.{value}
use Rattle.integers.proofs.Lists.{list_of-length}
use Rattle.integers.proofs.Places.{get_or-list_of}
use Rattle.integers.proofs.Tests.{says-within}
use Rattle.words.specs.Variables.{variables}
use Rattle.rules.specs.Translation.{bounds, system_words, auxiliaries}
use Rattle.sharing.specs.SharedSolutions.{Passes, SatisfiesModel, SatisfiesRows}
use Rattle.sharing.proofs.Theorem.{written_read, same-bounds, shared-solutions}
use Rattle.rowsystems.proofs.Ordered.{accepted-ordered}
use Rattle.bitforms.specs.OverBits.{evaluate}
use Rattle.bitforms.specs.BitForm.{encoding}
use Rattle.bitforms.specs.SameSolutions.{InBounds, ReadAs, SomeBits}
use Rattle.bitforms.proofs.Theorem.{form_of, value-bits, all-bits, zero-sound, zero-complete}
use Rattle.bitforms.proofs.InBounds.{bits_inside}
use Rattle.bitsharing.specs.ModelSolutions.{ModelSolutions}

module _ (model : List ℕ) (passes : Passes model) where
  abbrev system : List ℕ
  system = system_words model

  length-variables : length (variables system) ≡ length (variables model) + length (auxiliaries model)
  unfolding auxiliaries bounds
  length-variables =
      ap length (same-bounds model passes) ∙ length-append (variables model) _

  forth : (vs : List ℤ) → length vs ≡ length (variables model) → SatisfiesModel model vs → SomeBits system (length (variables model)) vs (form_of system)
  unfolding value
  forth vs l s =
      let x = (shared-solutions model passes vs).0 s in
      let xs = x.0 in
      let r = x.1.1 in
      let b = zero-complete system (vs ++ xs) (record { one_each = r.one_each; in_bounds = r.in_bounds }) r.all_true in
      let n = length-variables in
      (b.0, (b.1.0, λ v h. b.1.1 v (omega arith) ∙ get_or-append vs xs (pos 0) v (omega arith), b.1.2))

  back : (vs : List ℤ) → length vs ≡ length (variables model) → SomeBits system (length (variables model)) vs (form_of system) → SatisfiesModel model vs
  unfolding value encoding
  back vs l (bs, (a, r, z)) = (shared-solutions model passes vs).1 (xs, (list_of-length _ (length (auxiliaries model)), all_of))
    where
      xs : List ℤ
      xs = list_of (λ k. evaluate (value bs) (encoding system (length vs + k))) (length (auxiliaries model))

      total-length : length (vs ++ xs) ≡ length (variables system)
      total-length = length-append vs xs ∙ (let e = list_of-length (λ k. evaluate (value bs) (encoding system (length vs + k))) (length (auxiliaries model)) in let n = length-variables in omega arith)

      reads : ReadAs system (length (variables system)) bs (vs ++ xs)
      reads v h = go (dec_le (length vs) v)
        where
          go : Dec (length vs ≤ v) → evaluate (value bs) (encoding system v) ≡ value (vs ++ xs) v
          go (no n) = r v (omega arith) ∙ sym (get_or-append vs xs (pos 0) v (omega arith))
          go (yes n) =
              let e : v ≡ length vs + (v - length vs) = omega arith in
              let m = length-variables in
              subst (λ u. evaluate (value bs) (encoding system u) ≡ value (vs ++ xs) u) (sym e)
              (sym (get_or-append-add vs xs (v - length vs) (pos 0) ∙ get_or-list_of (λ k. evaluate (value bs) (encoding system (length vs + k))) (length (auxiliaries model)) (v - length vs) (pos 0) (omega arith)))

      inside : InBounds system (vs ++ xs)
      inside = record {
        one_each = total-length;
        in_bounds = λ v h.
            (says-within (bounds_in (variables system) v) (value (vs ++ xs) v)).1
            (rw (reads v h) at (bits_inside (value-bits bs ((all-bits bs).0 a.zero_or_one)) 0 (variables system) (accepted-ordered system (written_read model passes)) v h));
      }

      all_of : SatisfiesRows system (vs ++ xs)
      all_of = record { one_each = inside.one_each; in_bounds = inside.in_bounds; all_true = zero-sound system (vs ++ xs) bs inside a reads z }

  pub model-solutions : ModelSolutions model (form_of system)
  model-solutions vs l = (forth vs l, back vs l)
