-- What the list of sums has for the constraint that stands at a place: L and U as the rules have them.
use Rattle.std.proofs.Common.{◌≡◌, refl, ap, ap₂, sym, ◌∙◌, Bool, true, false, List, [], ◌∷◌, ℕ, ◌+◌, ◌-◌, ◌<◌, ◌≤◌, arith, eqb, get_or, drop, get_or-drop, eq-eqb, ne_eqb, eqb-true}
use mathlib.Core.Path.{fun_ext}
use borrow.Author.Tests.{eqb-false}
use Rattle.integers.specs.Choice.{◌if◌else◌}
use Rattle.integers.specs.Number.{+0, +1, -1}
use Rattle.integers.specs.Bounds.{◌to◌}
use Rattle.integers.specs.Lists.{any, list_of}
use Rattle.integers.specs.Terms.{◌·◌}
use Rattle.integers.specs.declared.Bounds.{Bounds}
use Rattle.words.specs.Word.{payload, signed, word_at}
use Rattle.words.specs.Small.{Near}
use Rattle.models.specs.Model.{var, num, size, past, past_terms, terms}
use Rattle.rules.specs.Parts.{L, U}
use Rattle.linearsums.specs.Sum.{no_sum, of_terms, of_two, form_of, linear_sum, equal_sum, sum_of, Summed}
use Rattle.linearsums.specs.Places.{code_before, form_before, sum_size, sum_number, sum_variable, sum_constant, sum_terms, sum_up_to, sum_bounds, sums_up_to}
use Rattle.linearsums.proofs.Size.{few-terms, upto-fits, upto_all}
use Rattle.linearsums.proofs.Places.{in_list}

-- a code has no sum, that of its terms, or a − b
terms-left : (code : ℕ) → (form_of code ≡ no_sum → ⊥) → (form_of code ≡ of_two → ⊥) → form_of code ≡ of_terms
unfolding form_of
terms-left code some other = go (any (eqb code) (12 ∷ 13 ∷ 15 ∷ 32 ∷ [])) (any (eqb code) (14 ∷ 31 ∷ [])) some other
  where
    go : (s t : Bool) → ((of_terms if s else of_two if t else no_sum) ≡ no_sum → ⊥) → ((of_terms if s else of_two if t else no_sum) ≡ of_two → ⊥) → (of_terms if s else of_two if t else no_sum) ≡ of_terms
    go true t p q = refl
    go false true p q = absurd (q refl)
    go false false p q = absurd (p refl)

-- ---- the words after a head are those of the model from there on
module _ (ws : List ℕ) (a : ℕ) where
  abbrev args : List ℕ
  args = drop a ws

  word-from : (i : ℕ) → word_at ws (a + i) ≡ word_at args i
  unfolding word_at
  word-from i = sym (get_or-drop a ws i 0)

  var-from : (j i : ℕ) → j ≡ a + i → var ws j ≡ var args i
  unfolding var
  var-from j i e = ap payload (ap (word_at ws) e ∙ word-from i)

  num-from : (j i : ℕ) → j ≡ a + i → num ws j ≡ num args i
  unfolding num
  num-from j i e = ap signed (ap (word_at ws) e ∙ word-from i)

  size-from : size ws a ≡ size args 0
  unfolding size
  size-from = rw (var-from a 0 (omega arith))

  terms-from : list_of (λ k. num ws (a + 1 + k) · var ws (past ws a + k)) (size ws a) ≡ terms args 0
  unfolding terms past
  terms-from = ap₂ list_of (fun_ext (λ k. ap₂ (λ c v. c · v) (num-from (a + 1 + k) (0 + 1 + k) (omega arith)) (var-from (past ws a + k) (past args 0 + k) (omega (arith, size-from))))) size-from

  constant-from : num ws (past_terms ws a) ≡ num args (past_terms args 0)
  unfolding past_terms past
  constant-from = num-from (past_terms ws a) (past_terms args 0) (omega (arith, size-from))

  -- ---- by the code
  module _ (β : ℕ → Bounds) (code : ℕ) (is : code_before ws a ≡ code) (some : form_of code ≡ no_sum → ⊥) where
    linear-is : (form_of code ≡ of_two → ⊥) → sum_bounds ws a β ≡ linear_sum β args
    unfolding sum_bounds sum_up_to sum_terms form_before sum_size sum_number sum_variable sum_constant linear_sum
    linear-is other =
        rw (is, ne_eqb (form_of code) no_sum some, ne_eqb (form_of code) of_two other, eq-eqb (form_of code) of_terms (terms-left code some other))
        (ap₂ (λ ts c. L β ts c to U β ts c) terms-from constant-from)

    equal_is : form_of code ≡ of_two → sum_bounds ws a β ≡ equal_sum β args
    unfolding sum_bounds sum_up_to sum_terms form_before sum_size sum_number sum_variable sum_constant equal_sum list_of
    equal_is e =
        rw (is, ne_eqb (form_of code) no_sum some, eq-eqb (form_of code) of_two e, ne_eqb (form_of code) of_terms (λ t. omega (arith, e, t)))
        (ap₂ (λ x y. let ts = +1 · x ∷ -1 · y ∷ [] in L β ts +0 to U β ts +0) (var-from (a + 0) 0 refl) (var-from (a + 1) 1 refl))

    sum_is : sum_bounds ws a β ≡ sum_of β code args
    unfolding sum_of
    sum_is = go (eqb (form_of code) of_two) refl
      where
        go : (t : Bool) → eqb (form_of code) of_two ≡ t → sum_bounds ws a β ≡ (equal_sum β args if t else linear_sum β args)
        go true e = equal_is (eqb-true (form_of code) of_two e)
        go false e = linear-is (eqb-false (form_of code) of_two e)

code_of_head : (ws : List ℕ) (at : ℕ) → code_before ws (at + 1) ≡ payload (word_at ws at)
unfolding code_before
code_of_head ws at = let e : at + 1 - 1 ≡ at = omega arith in rw (ne_eqb (at + 1) 0 (λ z. omega arith), e)

-- ---- what the list of sums has for constraint k, whatever stands past the list's end
module _ (ws hs : List ℕ) (β : ℕ → Bounds) (d : Bounds) where
  pub sum-here : ((v : ℕ) → Near (β v).lower × Near (β v).upper) → (n k : ℕ) → k < n → n ≤ 256 → Summed β (payload (word_at ws (get_or hs k 0))) (drop (get_or hs k 0 + 1) ws) (get_or (sums_up_to ws hs β n) k d)
  sum-here near n k h l =
      let a = get_or hs k 0 + 1 in
      rw (in_list ws hs β d n k h l)
      record {
        fits = rw (← upto_all ws a β) (upto-fits β near ws a (sum_size ws a) (few-terms ws a));
        is = sum_is ws a β (payload (word_at ws (get_or hs k 0))) (code_of_head ws (get_or hs k 0));
      }
