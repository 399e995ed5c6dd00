-- Items one after the other, as a loop reads them: an item, and a comma or the closing bracket.
use Rattle.std.proofs.Common.{◌≡◌, refl, sym, ap, ◌∙◌, Bool, true, false, List, [], ◌∷◌, ◌++◌, ℕ, suc, ◌+◌, ◌-◌, ◌<◌, ◌≤◌, arith, length, append_assoc, Option, Some, None}
use Rattle.integers.specs.Choice.{◌if◌else◌}
use Rattle.flatzinc.specs.declared.trouble.Trouble.{Trouble}
use Rattle.flatzinc.specs.declared.trouble.Trouble.TheVariants.{Memory, Fault}
use Rattle.flatzinc.specs.Answer.{Fails}
use Rattle.flattokens.specs.Token.{Token}
use Rattle.flatstatements.specs.Front.{◌>>=◌}
use Rattle.flatstatements.specs.Reading.{separator_at, items_at, some_at}

-- what was read before, and what is still read
abbrev pub with_front : {A : Type 0} → List A → Option (List A × List Token) → Option (List A × List Token)
with_front front read = read >>= λ x. Some (front ++ x.0, x.1)

module _ {A : Type 0} (item : List Token → Option (A × List Token)) (close : ℕ) where
  abbrev behind : (List Token → Option (List A × List Token)) → A → Bool × List Token → Option (List A × List Token)
  behind rest x s = (rest s.1 >>= λ more. Some (x ∷ more.0, more.1)) if s.0 else Some (x ∷ [], s.1)

  abbrev one : (List Token → Option (List A × List Token)) → A × List Token → Option (List A × List Token)
  one rest x = separator_at close x.1 >>= behind rest x.0

  unrolled : (count i : ℕ) (ts : List Token) → i < count → items_at item close (count - i) ts ≡ (item ts >>= one (items_at item close (count - (i + 1))))
  unfolding items_at
  unrolled count i ts l = let k : count - i ≡ suc (count - (i + 1)) = omega arith in rw k refl

  regroup : (front : List A) (x : A) (read : Option (List A × List Token)) → with_front front (read >>= λ more. Some (x ∷ more.0, more.1)) ≡ with_front (front ++ (x ∷ [])) read
  regroup front x (Some y) = ap (λ (xs : List A). Some (xs, y.1)) (simp append_assoc)
  regroup front x None = refl

  module _ (front : List A) (count i : ℕ) (ts : List Token) (total : Option (List A × List Token)) (inside : i < count)
      (so_far : with_front front (items_at item close (count - i) ts) ≡ total) where
    starts : with_front front (item ts >>= one (items_at item close (count - (i + 1)))) ≡ total
    starts = ap (with_front front) (sym (unrolled count i ts inside)) ∙ so_far

    module _ (x : A) (after : List Token) (read : item ts ≡ Some (x, after)) where
      at_separator : with_front front (separator_at close after >>= behind (items_at item close (count - (i + 1))) x) ≡ total
      at_separator = ap (λ (o : Option (A × List Token)). with_front front (o >>= one (items_at item close (count - (i + 1))))) (sym read) ∙ starts

      pub goes_on : (rest : List Token) → separator_at close after ≡ Some (true, rest) → with_front (front ++ (x ∷ [])) (items_at item close (count - (i + 1)) rest) ≡ total
      goes_on rest e =
          sym (regroup front x (items_at item close (count - (i + 1)) rest))
          ∙ ap (λ (o : Option (Bool × List Token)). with_front front (o >>= behind (items_at item close (count - (i + 1))) x)) (sym e) ∙ at_separator

      pub is_done : (rest : List Token) → separator_at close after ≡ Some (false, rest) → total ≡ Some (front ++ (x ∷ []), rest)
      is_done rest e = sym at_separator ∙ ap (λ (o : Option (Bool × List Token)). with_front front (o >>= behind (items_at item close (count - (i + 1))) x)) e

      pub separator_fails : (e : Trouble) → Fails e (separator_at close after) → Fails e total
      separator_fails Memory h = tt
      separator_fails (Fault m) h = sym at_separator ∙ ap (λ (o : Option (Bool × List Token)). with_front front (o >>= behind (items_at item close (count - (i + 1))) x)) h

    pub item_fails : (e : Trouble) → Fails e (item ts) → Fails e total
    item_fails Memory h = tt
    item_fails (Fault m) h = sym starts ∙ ap (λ (o : Option (A × List Token)). with_front front (o >>= one (items_at item close (count - (i + 1))))) h

  same : (r : Option (List A × List Token)) → with_front [] r ≡ r
  same (Some x) = refl
  same None = refl

  pub starts_some : (count : ℕ) (ts : List Token) → count ≡ length ts → with_front [] (items_at item close (count - 0) ts) ≡ some_at item close ts
  unfolding some_at
  starts_some count ts e = let k : count - 0 ≡ length ts = omega arith in rw k (same (items_at item close (length ts) ts))

  pub runs_out : (front : List A) (count i : ℕ) (ts : List Token) (total : Option (List A × List Token)) → count ≤ i → with_front front (items_at item close (count - i) ts) ≡ total → total ≡ None
  unfolding items_at
  runs_out front count i ts total l so_far = let k : count - i ≡ 0 = omega arith in sym so_far ∙ rw k refl
