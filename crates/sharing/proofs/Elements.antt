-- 24 array_int_element and 25 array_var_int_element: their blocks hold exactly where c is the i-th of the list.
use Rattle.std.proofs.Common.{◌≡◌, refl, sym, ◌∙◌, ◌↔◌, true, List, [], ◌∷◌, ◌++◌, map, arith, ℕ, zero, suc, ◌+◌, ◌-◌, ◌<◌, ℤ, pos, negsuc, length, get_or}
use lib.ListN.{length-map}
use Rattle.integers.specs.Number.{◌≟◌, count, +0, +1}
use Rattle.integers.specs.Bounds.{◌to◌, values}
use Rattle.integers.specs.Terms.{Valuation, value}
use Rattle.integers.specs.declared.Bounds.{Bounds}
use Rattle.integers.proofs.Linear.{◌⊑◌, linear}
use Rattle.integers.proofs.Lists.{all_append, all-members, all-at}
use Rattle.integers.proofs.Tests.{Says, says-le, says-equal, says-and, In, All, Any, Member, false-true}
use Rattle.models.specs.Builtin.{array_int_element, array_var_int_element}
use Rattle.models.specs.Meaning.{meaning, element}
use Rattle.models.proofs.Arguments.{integer_arguments}
use Rattle.rules.specs.Parts.{one, chosen, products, nth, places}
use Rattle.rules.specs.Rule.{rule, number_element, variable_element}
use Rattle.rules.specs.Pick.{first_bit, gated_pick, pick}
use Rattle.sharing.proofs.Good.{Sat, see}
use Rattle.sharing.proofs.Basics.{Correct}
use Rattle.sharing.proofs.OneHot.{chosen-one, chosen_at, one_hot_sound, one_hot_complete, chosen-value, picked_value, bits-filled}
use Rattle.rules.proofs.Members.{member-passes, values-member, values_distinct}
use Rattle.sharing.proofs.Gates.{gates-at, gates-keep, gates-sound, gates-complete, gates-filled, gates-are}
use Rattle.sharing.proofs.FirstOnly.{value-bits}

-- ---- an element by its place

-- i is a place of a list of n elements
abbrev pub Place : ℤ → ℕ → Type 0
Place i n = (+1 ⊑ i) × (i ⊑ pos n)

pub says-element : (i : ℤ) (xs : List ℤ) (c : ℤ) → Says (element i xs c) (Place i (length xs) × (nth +0 xs i ≡ c))
unfolding element nth count
says-element (pos i) xs c = says-and (says-and (says-le +1 (pos i)) (says-le (pos i) (pos (length xs)))) (says-equal (get_or xs (i - 1) +0) c)
says-element (negsuc i) xs c = (λ e. false-true e, λ h. absurd h.0.0.le)

in_places : (B : Bounds) (n : ℕ) (j : ℤ) → In (places B n) j ↔ (Place j n × In B j)
unfolding places
in_places B n j = core B.lower B.upper n j
  where
    core : (l u : ℤ) (n : ℕ) (j : ℤ) → In (places (l to u) n) j ↔ (Place j n × ((l ⊑ j) × (j ⊑ u)))
    core = simp linear (omega arith)

place-below : (n : ℕ) (j : ℤ) → Place j n → count j - 1 < n
place-below = simp linear (omega arith)

-- what holds of all elements holds of the one at a place
pub nth-all : {A : Type 0} (P : A → Type 0) (d : A) (xs : List A) (j : ℤ) → Place j (length xs) → All P xs → P (nth d xs j)
unfolding nth
nth-all P d xs j p h = all-at P d xs (count j - 1) (place-below (length xs) j p) h

-- of a list of values, the one at a place is the value of the variable there
nth-map : (σ : Valuation) (xs : List ℕ) (j : ℤ) → Place j (length xs) → nth +0 (map σ xs) j ≡ σ (nth 0 xs j)
unfolding nth
nth-map σ xs j p = go xs (count j - 1) (place-below (length xs) j p)
  where
    go : (xs : List ℕ) (k : ℕ) → k < length xs → get_or (map σ xs) k +0 ≡ σ (get_or xs k 0)
    go [] k l = absurd (omega arith)
    go (x ∷ xs) zero l = refl
    go (x ∷ xs) (suc k) l = go xs k (omega arith)

pub says_variable_element : (σ : Valuation) (i : ℤ) (xs : List ℕ) (c : ℤ) → Says (element i (map σ xs) c) (Place i (length xs) × (σ (nth 0 xs i) ≡ c))
says_variable_element σ i xs c =
    let s = rw (length-map xs σ) at (says-element i (map σ xs) c) in
    (λ t. let h = s.0 t in (h.0, sym (nth-map σ xs i h.0) ∙ h.1), λ h. s.1 (h.0, nth-map σ xs i h.0 ∙ h.1))

-- ---- the labels of 24 and 25

pub labels-place : (B : Bounds) (n : ℕ) (j : ℤ) → Member j (values (places B n)) → Place j n
labels-place B n j m = ((in_places B n j).0 ((values-member (places B n) j).0 m)).0

labels-pass : (B : Bounds) (n : ℕ) (i : ℤ) → Place i n → In B i → Any (λ j. (j ≟ i) ≡ true) (values (places B n))
labels-pass B n i p h = member-passes i (values (places B n)) ((values-member (places B n) i).1 ((in_places B n i).1 (p, h)))

-- ---- 24

pub array_int_element_correct : (β : ℕ → Bounds) (σ : Valuation) (i : ℕ) (ns : List ℤ) (c : ℕ) → Correct β σ (array_int_element i ns c)
unfolding meaning rule number_element pick integer_arguments
array_int_element_correct β σ i ns c = record {
  sound = λ α f g.
      let d = chosen-value js σ α i (one_hot_sound js σ α g.0 g.1.0) g.1.1.0 in
      (says-element (σ i) ns (σ c)).1 (labels-place (β i) (length ns) (σ i) d.0, (chosen_at js σ α (σ i) d (nth +0 ns) c).0 g.1.1.1.0);
  complete = λ f t rest.
      let h = (says-element (σ i) ns (σ c)).0 t in
      let p = one_hot_complete (λ j. j ≟ σ i) js rest (labels-pass (β i) (length ns) (σ i) h.0 f.kept.0) in
      let α = value (first_bit (λ j. j ≟ σ i) js ++ rest) in
      let d = picked_value js α (σ i) p.1 in
      let row = chosen_at js σ α (σ i) d in
      (p.0, (chosen-one js σ α (σ i) d, ((row (λ j. j) i).1 refl, ((row (nth +0 ns) c).1 h.1, tt))));
  filled = bits-filled (λ j. j ≟ σ i) js;
  determined = λ α f g. value-bits js σ α i (values_distinct _) g.0 g.1.0 g.1.1.0;
}
  where
    js : List ℤ
    js = values (places (β i) (length ns))

-- ---- 25

pub array_var_int_element_correct : (β : ℕ → Bounds) (σ : Valuation) (i : ℕ) (xs : List ℕ) (c : ℕ) → Correct β σ (array_var_int_element i xs c)
unfolding meaning rule variable_element pick integer_arguments
array_var_int_element_correct β σ i xs c = record {
  sound = λ α f g.
      let d = chosen-value js σ α i (gates-sound (λ j. β (nth 0 xs j)) js σ α g.0 g.1.0) g.1.1.0 in
      let s = (last α).0 g.1.1.1 in
      (says_variable_element σ (σ i) xs (σ c)).1
      (labels-place (β i) (length xs) (σ i) d.0, (gates-at (nth 0 xs) js (length js) c σ α (σ i) d s.0).0 s.1.0);
  complete = λ f t rest.
      let h = (says_variable_element σ (σ i) xs (σ c)).0 t in
      let at : (j : ℤ) → Member j js → In (β (nth 0 xs j)) (σ (nth 0 xs j)) =
      λ j m. nth-all (λ v. In (β v) (σ v)) 0 xs j (labels-place (β i) (length xs) j m) f.kept.1.1 in
      let kept = (all-members (λ j. In (β (nth 0 xs j)) (σ (nth 0 xs j))) js).1 at in
      let p = gates-complete (nth 0 xs) (λ j. j ≟ σ i) js β σ rest kept (labels-pass (β i) (length xs) (σ i) h.0 f.kept.0) in
      let α = value (gated_pick (λ j. σ (nth 0 xs j)) (λ j. j ≟ σ i) js ++ rest) in
      let d = picked_value js α (σ i) p.2 in
      let e = (gates-at (nth 0 xs) js (length js) c σ α (σ i) d p.1).1 h.1 in
      (p.0, (chosen-one js σ α (σ i) d, ((chosen_at js σ α (σ i) d (λ j. j) i).1 refl, (last α).1 (p.1, (e, tt)))));
  filled = gates-filled (λ j. σ (nth 0 xs j)) (λ j. j ≟ σ i) (λ j. β (nth 0 xs j)) js;
  determined = λ α f g.
      let k = (gates-keep (λ j. β (nth 0 xs j)) js α (λ j. α (length js + j)) (λ j. refl)).0 g.0 in
      gates-are (nth 0 xs) (λ j. j ≟ σ i) js σ α ((last α).0 g.1.1.1).0 (value-bits js σ α i (values_distinct _) k.0 g.1.0 g.1.1.0);
}
  where
    js : List ℤ
    js = values (places (β i) (length xs))

    last : (α : Valuation) → let rows = products (nth 0 xs) js 0 (length js) in let row = chosen one js (length js) c in
        All (Sat (see σ α)) (rows ++ (row ∷ [])) ↔ (All (Sat (see σ α)) rows × All (Sat (see σ α)) (row ∷ []))
    last α = all_append (Sat (see σ α)) (products (nth 0 xs) js 0 (length js)) (chosen one js (length js) c ∷ [])
