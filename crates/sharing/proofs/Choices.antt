-- 02, wish 7: the blocks of 24, 25, 27, 28 over a shared variable are sound and complete, and their auxiliaries are the picks, given that earlier
-- blocks' bits say its value.
use Rattle.std.proofs.Common.{◌≡◌, refl, sym, ap, ap₂, ◌∙◌, subst, inl, inr, Bool, true, false, List, [], ◌∷◌, ◌++◌, map, append_assoc, arith, ℕ, zero, suc, ◌+◌, ◌-◌, ◌<◌, eqb, ℤ, pos, eqb-true, length, get_or, length-append}
use lib.ListN.{length-map}
use Rattle.integers.specs.Choice.{◌if◌else◌}
use Rattle.integers.specs.Number.{◌⊗◌, ◌≟◌, count, +0, +1}
use Rattle.integers.specs.Lists.{any}
use Rattle.integers.specs.Bounds.{◌to◌, within, values}
use Rattle.integers.specs.Terms.{Valuation, ◌·◌, value}
use Rattle.integers.specs.declared.Bounds.{Bounds}
use Rattle.integers.proofs.Bits.{Bit, b0, b1}
use Rattle.integers.proofs.Lists.{all_append, all-members}
use Rattle.integers.proofs.Tests.{says-within, In, All, Member, false-true}
use Rattle.models.specs.Builtin.{Builtin, int_eq, array_int_element, array_var_int_element, set_in, set_in_reif}
use Rattle.models.specs.Model.{Constraint, var, vars, nums, past, builtins, builtin}
use Rattle.models.specs.Meaning.{meaning, on, member}
use Rattle.models.proofs.Arguments.{integer_arguments, boolean_arguments}
use Rattle.rules.specs.Block.{Ref}
use Rattle.rules.specs.Parts.{Z, one, chosen, nth}
use Rattle.rules.specs.Pick.{bit_of}
use Rattle.rules.specs.Shared.{Choice, of_element, of_var_element, of_set, of_set_reif, no_choice, choice, encodes, shares, Encoded, value_bit, new_bits, new_rows, kept, left_out, shared_rule, new_pick, shared_pick, bit_products, keep}
use Rattle.sharing.proofs.Good.{dot, Good, Sat, see, Keeps, Are}
use Rattle.sharing.proofs.Fits.{Fits}
use Rattle.sharing.proofs.OneHot.{bit_sum, From, from-head, from_tail, chosen-law, with-bit}
use Rattle.sharing.proofs.Gates.{keeps-append, are-append, from-append, gate_in}
use Rattle.rules.proofs.Members.{values-member, keep-member}
use Rattle.sharing.proofs.Elements.{says-element, says_variable_element, nth-all}
use Rattle.sharing.proofs.Sets.{says-bit}
use Rattle.sharing.proofs.Encoding.{Held, Coded, kept-value, kept_sum-law, left_out-law, exact, coded-sound, new_determined, coded-complete, new_filled}

-- ---- the four, and the others

-- a choice and its builtin
pub data View : Choice → Builtin → Type 0 where
  is-element : (i : ℕ) (ns : List ℤ) (c : ℕ) → View (of_element i ns c) (array_int_element i ns c)
  is_var_element : (i : ℕ) (xs : List ℕ) (c : ℕ) → View (of_var_element i xs c) (array_var_int_element i xs c)
  is_set : (x : ℕ) (S : List ℤ) → View (of_set x S) (set_in x S)
  is_set_reif : (x : ℕ) (S : List ℤ) (r : ℕ) → View (of_set_reif x S r) (set_in_reif x S r)
  other : (b : Builtin) → View no_choice b

pub view : (k : Constraint) → View (choice k) (builtin k)
unfolding choice builtin builtins
view k = by24 (eqb k.code 24) refl
  where
    ws : List ℕ
    ws = k.arguments

    made : Builtin
    made = get_or builtins k.code (λ ws. int_eq 0 0) ws

    -- the choice where the code is none of those tried before, t the test of the next one
    of28 : Bool → Choice
    of28 t = of_set_reif (var ws 0) (nums ws 1) (var ws (past ws 1)) if t else no_choice

    of27 : Bool → Choice
    of27 t = of_set (var ws 0) (nums ws 1) if t else of28 (eqb k.code 28)

    of25 : Bool → Choice
    of25 t = of_var_element (var ws 0) (vars ws 1) (var ws (past ws 1)) if t else of27 (eqb k.code 27)

    of24 : Bool → Choice
    of24 t = of_element (var ws 0) (nums ws 1) (var ws (past ws 1)) if t else of25 (eqb k.code 25)

    by28 : (t : Bool) → eqb k.code 28 ≡ t → View (of28 t) made
    by28 true e = rw (eqb-true k.code 28 e) (is_set_reif _ _ _)
    by28 false e = other _

    by27 : (t : Bool) → eqb k.code 27 ≡ t → View (of27 t) made
    by27 true e = rw (eqb-true k.code 27 e) (is_set _ _)
    by27 false e = by28 (eqb k.code 28) refl

    by25 : (t : Bool) → eqb k.code 25 ≡ t → View (of25 t) made
    by25 true e = rw (eqb-true k.code 25 e) (is_var_element _ _ _)
    by25 false e = by27 (eqb k.code 27) refl

    by24 : (t : Bool) → eqb k.code 24 ≡ t → View (of24 t) made
    by24 true e = rw (eqb-true k.code 24 e) (is-element _ _ _)
    by24 false e = by25 (eqb k.code 25) refl

-- the others encode nothing
pub not-shared : {G : Type 0} (s : ℕ → Bool) → shares s no_choice ≡ true → G
unfolding shares encodes any
not-shared s h = false-true h

-- ---- products of a variable and a bit

-- they add up to the sum over the bits, weighted by the variables' values
products-sum : (f : ℤ → ℕ) (b : ℤ → Ref) (ls : List ℤ) (n : ℕ) (ρ α δ : Valuation) → From n α δ → All (Sat (see ρ α)) (bit_products f b ls n) →
    bit_sum one ls δ ≡ dot (see ρ α) (map (λ v. ρ (f v) · b v) ls)
unfolding bit_products
products-sum f b [] n ρ α δ p h = refl
products-sum f b (l ∷ ls) n ρ α δ p h =
    with-bit _ _ _ _ (sym (from-head n α δ p) ∙ h.0) (products-sum f b ls (suc n) ρ α (λ j. δ (suc j)) (from_tail n α δ p) h.1)

bit_of_test : (t : Bool) → Bit (bit_of t)
unfolding bit_of
bit_of_test true = b1
bit_of_test false = b0

-- what fill picks for them keeps Z and satisfies them, where the bits are those of v's label
products-picked : (β : ℕ → Bounds) (f : ℤ → ℕ) (b : ℤ → Ref) (v : ℤ) (ls : List ℤ) (n : ℕ) (ρ α : Valuation) (rest : List ℤ) →
    All (λ l. In (β (f l)) (ρ (f l)) × (see ρ α (b l) ≡ bit_of (l ≟ v))) ls → let δ = value (map (λ l. ρ (f l) ⊗ bit_of (l ≟ v)) ls ++ rest) in
    From n α δ → Keeps (map (λ l. Z (β (f l))) ls) δ × All (Sat (see ρ α)) (bit_products f b ls n)
unfolding bit_products value
products-picked β f b v [] n ρ α rest h p = (tt, tt)
products-picked β f b v (l ∷ ls) n ρ α rest h p =
    let δ = value (map (λ l. ρ (f l) ⊗ bit_of (l ≟ v)) (l ∷ ls) ++ rest) in
    let r = products-picked β f b v ls (suc n) ρ α rest h.1 (from_tail n α δ p) in (
      (gate_in (bit_of (l ≟ v)) (bit_of_test (l ≟ v)) (β (f l)).lower (β (f l)).upper (ρ (f l)) h.0.0, r.0),
      (from-head n α δ p ∙ ap (λ y. ρ (f l) ⊗ y) (sym h.0.1), r.1),
    )

-- ---- sound

module _ (β : ℕ → Bounds) (e : Encoded) (ρ α : Valuation) (held : Held β ρ e) where
  -- the builtin is true, and the variable's bits say its value
  abbrev pub TrueCoded : Choice → Builtin → Type 0
  TrueCoded ch b = (meaning ρ b ≡ true) × ((x : ℕ) → Member x (encodes ch) → Coded β e x ρ α)

  only : (x : ℕ) → Coded β e x ρ α → (y : ℕ) → Member y (x ∷ []) → Coded β e y ρ α
  only x c y (inl q) = subst (λ z. Coded β e z ρ α) (sym q) c
  only x c y (inr m) = absurd m

  element-sound : (i : ℕ) (ns : List ℤ) (c : ℕ) → Good (shared_rule β e (of_element i ns c)) ρ α → TrueCoded (of_element i ns c) (array_int_element i ns c)
  unfolding meaning shared_rule encodes
  element-sound i ns c g =
      let t = within (+1 to pos (length ns)) in
      let a = (all_append (Sat (see ρ α)) (new_rows β e i) _).0 g.1 in
      let b = (all_append (Sat (see ρ α)) (left_out β e t i) _).0 a.1 in
      let d = coded-sound β e i ρ α (held i) g.0 a.0 in
      let p = (left_out-law β e i ρ α d t).0 b.0 in
      let q = (kept_sum-law β e i ρ α d (nth +0 ns) t c).0 b.1.0 in
      ((says-element (ρ i) ns (ρ c)).1 ((says-within (+1 to pos (length ns)) (ρ i)).0 p, rw p at q), only i d)

  var_element_sound : (i : ℕ) (xs : List ℕ) (c : ℕ) → Good (shared_rule β e (of_var_element i xs c)) ρ α → TrueCoded (of_var_element i xs c) (array_var_int_element i xs c)
  unfolding meaning shared_rule encodes kept
  var_element_sound i xs c g =
      let t = within (+1 to pos (length xs)) in
      let js = keep t (values (β i)) in
      let n = length (new_bits β e i) in
      let k = (keeps-append (new_bits β e i) (map (λ j. Z (β (nth 0 xs j))) js) α (λ j. α (n + j)) (λ j. refl)).0 g.0 in
      let a = (all_append (Sat (see ρ α)) (new_rows β e i) _).0 g.1 in
      let b = (all_append (Sat (see ρ α)) (left_out β e t i) _).0 a.1 in
      let z = (all_append (Sat (see ρ α)) (bit_products (nth 0 xs) (value_bit β e i) js n) (chosen one js n c ∷ [])).0 b.1 in
      let d = coded-sound β e i ρ α (held i) k.0 a.0 in
      let p = (left_out-law β e i ρ α d t).0 b.0 in
      let s = products-sum (nth 0 xs) (value_bit β e i) js n ρ α (λ j. α (n + j)) (λ j. refl) z.0 in
      let q = (chosen-law one js n c ρ α (λ j. α (n + j)) (λ j. refl)).0 z.1.0 in
      let w = kept-value β e i ρ α d (λ j. ρ (nth 0 xs j)) t in
      ((says_variable_element ρ (ρ i) xs (ρ c)).1 ((says-within (+1 to pos (length xs)) (ρ i)).0 p, sym (rw p at w) ∙ sym s ∙ q), only i d)

  set-sound : (x : ℕ) (S : List ℤ) → Good (shared_rule β e (of_set x S)) ρ α → TrueCoded (of_set x S) (set_in x S)
  unfolding meaning shared_rule encodes
  set-sound x S g =
      let a = (all_append (Sat (see ρ α)) (new_rows β e x) _).0 g.1 in
      let d = coded-sound β e x ρ α (held x) g.0 a.0 in
      ((left_out-law β e x ρ α d (λ v. member v S)).0 a.1, only x d)

  set_reif_sound : (x : ℕ) (S : List ℤ) (r : ℕ) → Fits β ρ (set_in_reif x S r) → Good (shared_rule β e (of_set_reif x S r)) ρ α → TrueCoded (of_set_reif x S r) (set_in_reif x S r)
  unfolding meaning on shared_rule encodes boolean_arguments bit_of
  set_reif_sound x S r f g =
      let a = (all_append (Sat (see ρ α)) (new_rows β e x) _).0 g.1 in
      let d = coded-sound β e x ρ α (held x) g.0 a.0 in
      ((says-bit (member (ρ x) S) f.zero_one.0).1 ((kept_sum-law β e x ρ α d one (λ v. member v S) r).0 a.1.0), only x d)

  pub shared-sound : (s : ℕ → Bool) {ch : Choice} {b : Builtin} → View ch b → shares s ch ≡ true → Fits β ρ b → Good (shared_rule β e ch) ρ α → TrueCoded ch b
  shared-sound s (is-element i ns c) h f g = element-sound i ns c g
  shared-sound s (is_var_element i xs c) h f g = var_element_sound i xs c g
  shared-sound s (is_set x S) h f g = set-sound x S g
  shared-sound s (is_set_reif x S r) h f g = set_reif_sound x S r f g
  shared-sound s (other b) h f g = not-shared s h

-- ---- determined: the auxiliaries of a good block are the picks

-- the products with bits that are those of v's label
products-are : (f : ℤ → ℕ) (b : ℤ → Ref) (v : ℤ) (ls : List ℤ) (n : ℕ) (ρ α δ : Valuation) → All (λ l. see ρ α (b l) ≡ bit_of (l ≟ v)) ls → From n α δ →
    All (Sat (see ρ α)) (bit_products f b ls n) → Are (map (λ l. ρ (f l) ⊗ bit_of (l ≟ v)) ls) δ
unfolding bit_products
products-are f b v [] n ρ α δ h p g = tt
products-are f b v (l ∷ ls) n ρ α δ h p g = (
  sym (from-head n α δ p) ∙ g.0 ∙ ap (λ y. ρ (f l) ⊗ y) h.0,
  products-are f b v ls (suc n) ρ α (λ j. δ (suc j)) h.1 (from_tail n α δ p) g.1,
)

module _ (β : ℕ → Bounds) (e : Encoded) (ρ α : Valuation) (held : Held β ρ e) where
  var_element_determined : (i : ℕ) (xs : List ℕ) (c : ℕ) → Good (shared_rule β e (of_var_element i xs c)) ρ α → Are (shared_pick β e ρ (of_var_element i xs c)) α
  unfolding shared_rule shared_pick
  var_element_determined i xs c g =
      let B : Bounds = +1 to pos (length xs) in
      let js = keep (within B) (values (β i)) in
      let n = length (new_bits β e i) in
      let δ : Valuation = λ j. α (n + j) in
      let k = (keeps-append (new_bits β e i) (map (λ j. Z (β (nth 0 xs j))) js) α δ (λ j. refl)).0 g.0 in
      let a = (all_append (Sat (see ρ α)) (new_rows β e i) _).0 g.1 in
      let b = (all_append (Sat (see ρ α)) (left_out β e (within B) i) _).0 a.1 in
      let z = (all_append (Sat (see ρ α)) (bit_products (nth 0 xs) (value_bit β e i) js n) (chosen one js n c ∷ [])).0 b.1 in
      let d = coded-sound β e i ρ α (held i) k.0 a.0 in
      let at : (j : ℤ) → Member j js → see ρ α (value_bit β e i j) ≡ bit_of (j ≟ ρ i) =
      λ j m. exact β e i ρ α d j ((values-member (β i) j).0 ((keep-member (within B) j (values (β i))).0 m).0) in
      (are-append (new_pick β e ρ i) (map (λ j. ρ (nth 0 xs j) ⊗ bit_of (j ≟ ρ i)) js) α δ (λ j. ap (λ l. α (l + j)) (new_filled β e i ρ))).1 (
        new_determined β e i ρ α k.0 a.0,
        products-are (nth 0 xs) (value_bit β e i) (ρ i) js n ρ α δ ((all-members _ js).1 at) (λ j. refl) z.0,
      )

  pub shared-determined : (s : ℕ → Bool) {ch : Choice} {b : Builtin} → View ch b → shares s ch ≡ true → Good (shared_rule β e ch) ρ α → Are (shared_pick β e ρ ch) α
  unfolding shared_rule shared_pick
  shared-determined s (is-element i ns c) h g = new_determined β e i ρ α g.0 ((all_append (Sat (see ρ α)) (new_rows β e i) _).0 g.1).0
  shared-determined s (is_var_element i xs c) h g = var_element_determined i xs c g
  shared-determined s (is_set x S) h g = new_determined β e x ρ α g.0 ((all_append (Sat (see ρ α)) (new_rows β e x) _).0 g.1).0
  shared-determined s (is_set_reif x S r) h g = new_determined β e x ρ α g.0 ((all_append (Sat (see ρ α)) (new_rows β e x) _).0 g.1).0
  shared-determined s (other b) h g = not-shared s h

-- ---- complete

module _ (β : ℕ → Bounds) (e : Encoded) (ρ : Valuation) (held : Held β ρ e) where
  -- the picks, followed by anything, make the block good, and the variable's bits say its value
  abbrev pub GoodCoded : Choice → Builtin → List ℤ → Type 0
  GoodCoded ch b rest =
      let α = value (shared_pick β e ρ ch ++ rest) in
      Good (shared_rule β e ch) ρ α × ((x : ℕ) → Member x (encodes ch) → Coded β e x ρ α)

  element-complete : (i : ℕ) (ns : List ℤ) (c : ℕ) → Fits β ρ (array_int_element i ns c) → meaning ρ (array_int_element i ns c) ≡ true → (rest : List ℤ) →
      GoodCoded (of_element i ns c) (array_int_element i ns c) rest
  unfolding meaning shared_rule shared_pick encodes integer_arguments
  element-complete i ns c f m rest =
      let t = within (+1 to pos (length ns)) in
      let α = value (new_pick β e ρ i ++ rest) in
      let h = (says-element (ρ i) ns (ρ c)).0 m in
      let k = coded-complete β e i ρ (held i) f.kept.0 rest in
      let p = (says-within (+1 to pos (length ns)) (ρ i)).1 h.0 in
      let q : (nth +0 ns (ρ i) if t (ρ i) else +0) ≡ ρ c = rw p h.1 in (
        (k.0, (all_append (Sat (see ρ α)) (new_rows β e i) _).1 (k.1, (all_append (Sat (see ρ α)) (left_out β e t i) _).1 ((left_out-law β e i ρ α k.2 t).1 p, ((kept_sum-law β e i ρ α k.2 (nth +0 ns) t c).1 q, tt)))),
        only β e ρ α held i k.2,
      )

  var_element_complete : (i : ℕ) (xs : List ℕ) (c : ℕ) → Fits β ρ (array_var_int_element i xs c) → meaning ρ (array_var_int_element i xs c) ≡ true → (rest : List ℤ) →
      GoodCoded (of_var_element i xs c) (array_var_int_element i xs c) rest
  unfolding meaning shared_rule shared_pick encodes integer_arguments kept
  var_element_complete i xs c f m rest =
      let B : Bounds = +1 to pos (length xs) in
      let js = keep (within B) (values (β i)) in
      let zs = map (λ j. ρ (nth 0 xs j) ⊗ bit_of (j ≟ ρ i)) js in
      let α = value (new_pick β e ρ i ++ (zs ++ rest)) in
      let δ = value (zs ++ rest) in
      let n = length (new_bits β e i) in
      let h = (says_variable_element ρ (ρ i) xs (ρ c)).0 m in
      let k = coded-complete β e i ρ (held i) f.kept.0 (zs ++ rest) in
      let p = (says-within B (ρ i)).1 h.0 in
      let from : From n α δ = from-append (new_pick β e ρ i) (zs ++ rest) n (new_filled β e i ρ) in
      let at : (j : ℤ) → Member j js → In (β (nth 0 xs j)) (ρ (nth 0 xs j)) × (see ρ α (value_bit β e i j) ≡ bit_of (j ≟ ρ i)) =
      λ j y. let q = (keep-member (within B) j (values (β i))).0 y in
      (nth-all (λ v. In (β v) (ρ v)) 0 xs j ((says-within B j).0 q.1) f.kept.1.1, exact β e i ρ α k.2 j ((values-member (β i) j).0 q.0)) in
      let z = products-picked β (nth 0 xs) (value_bit β e i) (ρ i) js n ρ α rest ((all-members _ js).1 at) from in
      let w = kept-value β e i ρ α k.2 (λ j. ρ (nth 0 xs j)) (within B) in
      let s = products-sum (nth 0 xs) (value_bit β e i) js n ρ α δ from z.1 in
      let q = (chosen-law one js n c ρ α δ from).1 (s ∙ (rw p at w) ∙ h.1) in
      rw append_assoc (
        (
          (keeps-append (new_bits β e i) (map (λ j. Z (β (nth 0 xs j))) js) α δ from).1 (k.0, z.0),
          (all_append (Sat (see ρ α)) (new_rows β e i) _).1 (
            k.1,
            (all_append (Sat (see ρ α)) (left_out β e (within B) i) _).1 (
              (left_out-law β e i ρ α k.2 (within B)).1 p,
              (all_append (Sat (see ρ α)) (bit_products (nth 0 xs) (value_bit β e i) js n) (chosen one js n c ∷ [])).1 (z.1, (q, tt)),
            ),
          ),
        ),
        only β e ρ α held i k.2,
      )

  set-complete : (x : ℕ) (S : List ℤ) → Fits β ρ (set_in x S) → meaning ρ (set_in x S) ≡ true → (rest : List ℤ) → GoodCoded (of_set x S) (set_in x S) rest
  unfolding meaning shared_rule shared_pick encodes integer_arguments
  set-complete x S f m rest =
      let α = value (new_pick β e ρ x ++ rest) in
      let k = coded-complete β e x ρ (held x) f.kept.0 rest in
      ((k.0, (all_append (Sat (see ρ α)) (new_rows β e x) _).1 (k.1, (left_out-law β e x ρ α k.2 (λ v. member v S)).1 m)), only β e ρ α held x k.2)

  set_reif_complete : (x : ℕ) (S : List ℤ) (r : ℕ) → Fits β ρ (set_in_reif x S r) → meaning ρ (set_in_reif x S r) ≡ true → (rest : List ℤ) →
      GoodCoded (of_set_reif x S r) (set_in_reif x S r) rest
  unfolding meaning on shared_rule shared_pick encodes integer_arguments boolean_arguments bit_of
  set_reif_complete x S r f m rest =
      let α = value (new_pick β e ρ x ++ rest) in
      let k = coded-complete β e x ρ (held x) f.kept.0 rest in
      let q = (says-bit (member (ρ x) S) f.zero_one.0).0 m in
      ((k.0, (all_append (Sat (see ρ α)) (new_rows β e x) _).1 (k.1, ((kept_sum-law β e x ρ α k.2 one (λ v. member v S) r).1 q, tt))), only β e ρ α held x k.2)

  pub shared-complete : (s : ℕ → Bool) {ch : Choice} {b : Builtin} → View ch b → shares s ch ≡ true → Fits β ρ b → meaning ρ b ≡ true → (rest : List ℤ) → GoodCoded ch b rest
  shared-complete s (is-element i ns c) h f m rest = element-complete i ns c f m rest
  shared-complete s (is_var_element i xs c) h f m rest = var_element_complete i xs c f m rest
  shared-complete s (is_set x S) h f m rest = set-complete x S f m rest
  shared-complete s (is_set_reif x S r) h f m rest = set_reif_complete x S r f m rest
  shared-complete s (other b) h f m rest = not-shared s h

  -- the picked bits say the variable's value, whether the builtin is true or not
  pub shared-coded : (s : ℕ → Bool) {ch : Choice} {b : Builtin} → View ch b → shares s ch ≡ true → Fits β ρ b → (rest : List ℤ) →
      (x : ℕ) → Member x (encodes ch) → Coded β e x ρ (value (shared_pick β e ρ ch ++ rest))
  unfolding shared_pick encodes integer_arguments
  shared-coded s (is-element i ns c) h f rest = only β e ρ _ held i (coded-complete β e i ρ (held i) f.kept.0 rest).2
  shared-coded s (is_var_element i xs c) h f rest =
      let zs = map (λ j. ρ (nth 0 xs j) ⊗ bit_of (j ≟ ρ i)) (keep (within (+1 to pos (length xs))) (values (β i))) in
      rw append_assoc (only β e ρ (value (new_pick β e ρ i ++ (zs ++ rest))) held i (coded-complete β e i ρ (held i) f.kept.0 (zs ++ rest)).2)
  shared-coded s (is_set x S) h f rest = only β e ρ _ held x (coded-complete β e x ρ (held x) f.kept.0 rest).2
  shared-coded s (is_set_reif x S r) h f rest = only β e ρ _ held x (coded-complete β e x ρ (held x) f.kept.0 rest).2
  shared-coded s (other b) h f rest = not-shared s h

-- ---- a pick for each auxiliary

pub shared-filled : (β : ℕ → Bounds) (e : Encoded) (σ : Valuation) (ch : Choice) → length (shared_pick β e σ ch) ≡ length (shared_rule β e ch).auxiliaries
unfolding shared_pick shared_rule
shared-filled β e σ (of_element i ns c) = new_filled β e i σ
shared-filled β e σ (of_var_element i xs c) = simp (length-append, length-map, new_filled β e i σ)
shared-filled β e σ (of_set x S) = new_filled β e x σ
shared-filled β e σ (of_set_reif x S r) = new_filled β e x σ
shared-filled β e σ no_choice = refl

-- ---- values that agree on a builtin's variables

module _ (ρ σ : Valuation) (n : ℕ) (same : (v : ℕ) → v < n → ρ v ≡ σ v) where
  same-get_or : (xs : List ℕ) (k : ℕ) → 0 < n → All (λ v. v < n) xs → ρ (get_or xs k 0) ≡ σ (get_or xs k 0)
  same-get_or [] k z h = same 0 z
  same-get_or (x ∷ xs) zero z h = same x h.0
  same-get_or (x ∷ xs) (suc k) z h = same-get_or xs k z h.1

  same_map : (xs : List ℕ) → All (λ v. v < n) xs → map ρ xs ≡ map σ xs
  same_map [] h = refl
  same_map (x ∷ xs) h = ap₂ {C = List ℤ} (λ y ys. y ∷ ys) (same x h.0) (same_map xs h.1)

  -- the meaning of the four, and their picks
  pub same-meaning : {ch : Choice} {b : Builtin} (s : ℕ → Bool) → View ch b → shares s ch ≡ true → All (λ v. v < n) (integer_arguments b) → All (λ v. v < n) (boolean_arguments b) →
      meaning ρ b ≡ meaning σ b
  unfolding meaning integer_arguments boolean_arguments on
  same-meaning s (is-element i ns c) h k l = rw (same i k.0, same c k.1.0)
  same-meaning s (is_var_element i xs c) h k l = rw (same i k.0, same c k.1.0, same_map xs k.1.1)
  same-meaning s (is_set x S) h k l = rw (same x k.0)
  same-meaning s (is_set_reif x S r) h k l = rw (same x k.0, same r l.0)
  same-meaning s (other b) h k l = not-shared s h

  pub same-pick : {ch : Choice} {b : Builtin} (β : ℕ → Bounds) (e : Encoded) (s : ℕ → Bool) → View ch b → shares s ch ≡ true → All (λ v. v < n) (integer_arguments b) →
      shared_pick β e ρ ch ≡ shared_pick β e σ ch
  unfolding shared_pick new_pick integer_arguments nth
  same-pick β e s (is-element i ns c) h k = rw (same i k.0)
  same-pick β e s (is_var_element i xs c) h k =
      let js = keep (within (+1 to pos (length xs))) (values (β i)) in
      rw (same i k.0) (ap (λ zs. new_pick β e σ i ++ zs) (each js (λ j. same-get_or xs (count j - 1) (omega (arith, k.0)) k.1.1)))
    where
      each : (js : List ℤ) → ((j : ℤ) → ρ (get_or xs (count j - 1) 0) ≡ σ (get_or xs (count j - 1) 0)) →
          map (λ j. ρ (get_or xs (count j - 1) 0) ⊗ bit_of (j ≟ σ i)) js ≡ map (λ j. σ (get_or xs (count j - 1) 0) ⊗ bit_of (j ≟ σ i)) js
      each [] f = refl
      each (j ∷ js) f = ap₂ {C = List ℤ} (λ y ys. y ∷ ys) (ap (λ y. y ⊗ bit_of (j ≟ σ i)) (f j)) (each js f)
  same-pick β e s (is_set x S) h k = rw (same x k.0)
  same-pick β e s (is_set_reif x S r) h k = rw (same x k.0)
  same-pick β e s (other b) h k = not-shared s h
