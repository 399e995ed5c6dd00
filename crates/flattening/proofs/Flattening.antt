-- FlatZinc is carried over to its system: rewritten, with constants, with parts.
use Rattle.std.proofs.Common.{◌≡◌, refl, sym, ap, ◌∙◌, subst, inl, inr, ◌↔◌, Bool, true, false, ◌&&◌, List, [], ◌∷◌, ◌++◌, map, ℕ, zero, suc, ◌+◌, ◌<◌, arith, ℤ, length, get_or, Option, Some, None}
use Rattle.std.specs.Prelude.{IfSome, option_and_then}
use Rattle.std.proofs.lemmas.List.{length-map}
use Rattle.integers.specs.Number.{◌≟◌, min_z, max_z}
use Rattle.integers.specs.Lists.{all}
use Rattle.integers.specs.Bounds.{◌to◌, bit}
use Rattle.integers.specs.Terms.{Valuation, value}
use Rattle.integers.specs.declared.Bounds.{Bounds}
use Rattle.integers.proofs.Linear.{◌⊑◌, linear, arith_z}
use Rattle.integers.proofs.Bits.{Bit, b0, b1, to-bit}
use Rattle.integers.proofs.Lists.{all_append, all_map}
use Rattle.integers.proofs.Tests.{Says, In, All, Member, says-equal, says-within, says_any, says_all, false-true}
use Rattle.models.specs.Meaning.{meaning, member}
use Rattle.models.specs.Builtin.{Builtin}
use Rattle.sharing.proofs.Good.{Keeps}
use Rattle.sharing.proofs.Satisfied.{satisfies}
use Rattle.flatzinc.specs.System.{System, Solves, Carries}
use Rattle.flatzinc.specs.declared.Atom.{Atom}
use Rattle.flatzinc.specs.declared.Atom.TheVariants.{Whole, Truth, Variable}
use Rattle.flatzinc.specs.Items.{Placed, Domain, bools, between, among, Declared, undeclared, Item, coded, bool_eq, bool_le, bool_lt, bool_unequal, array_bool_or, set_in_range, FlatZinc, value_of, placed_true, item_true, in_domain, SatisfiesFlat}
use Rattle.flatrewriting.specs.Rewritten.{rewritten, shorter}
use Rattle.flatconstants.specs.Constants.{Prepared, constants, with_constants, with_numbers, clauses_from, constant_bounds}
use Rattle.flatsplitting.specs.Split.{split_all}
use Rattle.flatrewriting.specs.Variables.{lowest, lowest_from, highest, highest_from, domain_bounds, domain_items, equal_items, given_items}
use Rattle.flatconstants.specs.Numbered.{numbered}
use Rattle.flattening.specs.Flattened.{joined, variable_items, constraint_items, prepared, with_parts, IsBoolean, BooleanAtom, EachBoolean, ItemTyped, EqualTyped, GivenTyped}
use Rattle.flatzinc.proofs.Agreeing.{Typed}
use Rattle.flatzinc.proofs.Carried.{carries_as, carries_through}
use Rattle.flatzinc.proofs.Solved.{True, AllTrue, Sol, sol_as}
use Rattle.flatsplitting.proofs.Split.{split_carries}
use Rattle.flatconstants.proofs.Constants.{DeclaredAtom, PlacedTrue, constants-known, constants_carry}
use Rattle.flatzinc.proofs.Plain.{the-list, no_list}
use Rattle.flatrewriting.proofs.Rewriting.{BooleanAtoms, rewritten-true, shorter-true}

-- ---- two lists of what is placed, joined

joined-parts : (o p : Option (List Placed)) (qs : List Placed) → joined o p ≡ Some qs →
    (as₁ : List Placed) × ((bs : List Placed) × ((o ≡ Some as₁) × (p ≡ Some bs) × (as₁ ++ bs ≡ qs)))
joined-parts None p qs e = no_list qs e
joined-parts (Some as₁) None qs e = no_list qs e
joined-parts (Some as₁) (Some bs) qs e = (as₁, (bs, (refl, refl, the-list (as₁ ++ bs) qs e)))

front-parts : (o : Option (List Placed)) (ps as₁ : List Placed) → option_and_then (λ qs. Some (ps ++ qs)) o ≡ Some as₁ →
    (gs : List Placed) × ((o ≡ Some gs) × (ps ++ gs ≡ as₁))
front-parts None ps as₁ e = no_list as₁ e
front-parts (Some gs) ps as₁ e = (gs, (refl, the-list (ps ++ gs) as₁ e))

-- what holds below n + 1 holds of 0 and of the others
at-front : (P : ℕ → Type 0) (n : ℕ) → ((k : ℕ) → k < suc n → P k) ↔ (P zero × ((k : ℕ) → k < n → P (suc k)))
at-front P n = (λ f. (f zero (omega arith), λ k l. f (suc k) (omega arith)), back)
  where
    back : P zero × ((k : ℕ) → k < n → P (suc k)) → (k : ℕ) → k < suc n → P k
    back h zero l = h.0
    back h (suc k) l = h.1 k (omega arith)

-- ---- a domain

⊑_trans : {a b c : ℤ} → a ⊑ b → b ⊑ c → a ⊑ c
⊑_trans h k = omega arith_z

at_most_itself : (a : ℤ) → a ⊑ a
at_most_itself = simp linear (omega arith)

at_most_first : (a b : ℤ) → min_z a b ⊑ a
at_most_first = simp linear (omega arith)

at_most_second : (a b : ℤ) → min_z a b ⊑ b
at_most_second = simp linear (omega arith)

at_least_first : (a b : ℤ) → a ⊑ max_z a b
at_least_first = simp linear (omega arith)

at_least_second : (a b : ℤ) → b ⊑ max_z a b
at_least_second = simp linear (omega arith)

lowest-first : (a : ℤ) (xs : List ℤ) → lowest_from a xs ⊑ a
unfolding lowest_from
lowest-first a [] = at_most_itself a
lowest-first a (x ∷ xs) = ⊑_trans (lowest-first (min_z a x) xs) (at_most_first a x)

lowest-other : (a x : ℤ) (xs : List ℤ) → Member x xs → lowest_from a xs ⊑ x
unfolding lowest_from
lowest-other a x [] m = absurd m
lowest-other a x (y ∷ ys) (inl e) = rw e (⊑_trans (lowest-first (min_z a y) ys) (at_most_second a y))
lowest-other a x (y ∷ ys) (inr m) = lowest-other (min_z a y) x ys m

lowest-below : (x : ℤ) (S : List ℤ) → Member x S → lowest S ⊑ x
unfolding lowest
lowest-below x [] m = absurd m
lowest-below x (y ∷ ys) (inl e) = rw e (lowest-first y ys)
lowest-below x (y ∷ ys) (inr m) = lowest-other y x ys m

highest-first : (a : ℤ) (xs : List ℤ) → a ⊑ highest_from a xs
unfolding highest_from
highest-first a [] = at_most_itself a
highest-first a (x ∷ xs) = ⊑_trans (at_least_first a x) (highest-first (max_z a x) xs)

highest-other : (a x : ℤ) (xs : List ℤ) → Member x xs → x ⊑ highest_from a xs
unfolding highest_from
highest-other a x [] m = absurd m
highest-other a x (y ∷ ys) (inl e) = rw e (⊑_trans (at_least_second a y) (highest-first (max_z a y) ys))
highest-other a x (y ∷ ys) (inr m) = highest-other (max_z a y) x ys m

highest-above : (x : ℤ) (S : List ℤ) → Member x S → x ⊑ highest S
unfolding highest
highest-above x [] m = absurd m
highest-above x (y ∷ ys) (inl e) = rw e (highest-first y ys)
highest-above x (y ∷ ys) (inr m) = highest-other y x ys m

says-member : (x : ℤ) (S : List ℤ) → Says (member x S) (Member x S)
unfolding member
says-member x S = says_any (λ v. x ≟ v) (λ v. x ≡ v) (λ v. says-equal x v) S

domain-law : (d : Domain) (v : ℕ) (σ : Valuation) → (In (domain_bounds d) (σ v) × PlacedTrue (domain_items v d) σ) ↔ (in_domain d (σ v) ≡ true)
unfolding domain_bounds domain_items in_domain placed_true meaning value_of
domain-law bools v σ = let s = says-within bit (σ v) in (λ h. s.1 h.0, λ e. (s.0 e, tt))
domain-law (between lo hi) v σ = let s = says-within (lo to hi) (σ v) in (λ h. s.1 h.0, λ e. (s.0 e, tt))
domain-law (among S) v σ =
    let s = says-member (σ v) S in (λ h. h.1.0, λ e. ((lowest-below (σ v) S (s.0 e), highest-above (σ v) S (s.0 e)), (e, tt)))

-- ---- all that is placed is true where the test of all says so

all-says : (ps : List Placed) (σ : Valuation) → Says (all (placed_true σ) ps) (PlacedTrue ps σ)
all-says ps σ = says_all (placed_true σ) (λ p. placed_true σ p ≡ true) (λ p. (λ e. e, λ e. e)) ps

abbrev InDomains : List Declared → Valuation → Type 0
InDomains ds α = (k : ℕ) → k < length ds → in_domain (get_or ds k undeclared).domain (α k) ≡ true

abbrev AsGiven : Valuation → List Declared → Valuation → Type 0
AsGiven σ ds α = (k : ℕ) → k < length ds → IfSome (get_or ds k undeclared).given (λ a. α k ≡ value_of σ a)

module _ (F : FlatZinc) (σ : Valuation) (bits : (v : ℕ) → IsBoolean F v → Bit (σ v)) where
  atom-bit : (a : Atom) → BooleanAtom F a → Bit (value_of σ a)
  unfolding value_of
  atom-bit (Whole n) h = absurd h
  atom-bit (Truth true) h = b1
  atom-bit (Truth false) h = b0
  atom-bit (Variable v) h = bits v h

  each-bit : (as₁ : List Atom) → EachBoolean F as₁ → All (λ a. Bit (value_of σ a)) as₁
  each-bit [] h = tt
  each-bit (a ∷ as₁) h = (atom-bit a h.0, each-bit as₁ h.1)

  item-bits : (i : Item) → ItemTyped F i → BooleanAtoms σ i
  item-bits (coded c vs) h = tt
  item-bits (bool_eq a b) h = (atom-bit a h.0, atom-bit b h.1)
  item-bits (bool_le a b) h = (atom-bit a h.0, atom-bit b h.1)
  item-bits (bool_lt a b) h = (atom-bit a h.0, atom-bit b h.1)
  item-bits (bool_unequal a b) h = (atom-bit a h.0, atom-bit b h.1)
  item-bits (array_bool_or as₁ r) h = (each-bit as₁ h.0, atom-bit r h.1)
  item-bits (set_in_range x lo hi) h = tt

  -- ---- the constraints

  constraints-law : (is₁ : List Item) (qs : List Placed) → All (ItemTyped F) is₁ → constraint_items is₁ ≡ Some qs → PlacedTrue qs σ ↔ (all (item_true σ) is₁ ≡ true)
  unfolding constraint_items all
  constraints-law [] qs t e = subst (λ (rs : List Placed). PlacedTrue rs σ ↔ (true ≡ true)) (the-list [] qs e) (λ h. refl, λ h. tt)
  constraints-law (i ∷ is₁) qs t e =
      let j = joined-parts (rewritten i) (constraint_items is₁) qs e in
      let r = constraints-law is₁ j.1.0 t.1 j.1.1.1 in
      let m = rewritten-true σ i j.0 (item-bits i t.0) j.1.1.0 in
      let s = all-says j.0 σ in
      let a = all_append (λ p. placed_true σ p ≡ true) j.0 j.1.0 in
      subst (λ (rs : List Placed). PlacedTrue rs σ ↔ ((item_true σ i && all (item_true σ) is₁) ≡ true)) j.1.1.2
      (both (item_true σ i) (all (item_true σ) is₁) (λ h. sym m ∙ s.1 h, λ h. s.0 (m ∙ h)) r a)
    where
      both : {A B C : Type 0} (x y : Bool) → A ↔ (x ≡ true) → B ↔ (y ≡ true) → C ↔ (A × B) → C ↔ ((x && y) ≡ true)
      both true y p q r = (λ c. q.0 (r.0 c).1, λ h. r.1 (p.1 refl, q.1 h))
      both false y p q r = (λ c. p.0 (r.0 c).0, λ h. false-true h)

  -- ---- one variable

  equal-law : (v : ℕ) (d : Domain) (a : Atom) (qs : List Placed) → (d ≡ bools → Bit (σ v)) → EqualTyped F d a → equal_items v d a ≡ Some qs →
      PlacedTrue qs σ ↔ (σ v ≡ value_of σ a)
  unfolding equal_items placed_true meaning value_of item_true
  equal-law v bools a qs b t e =
      let m = rewritten-true σ (bool_eq (Variable v) a) qs (b refl, atom-bit a t) e in
      let s = says-equal (σ v) (value_of σ a) in
      let u = all-says qs σ in
      (λ h. s.0 (sym m ∙ u.1 h), λ h. u.0 (m ∙ s.1 h))
  equal-law v (between lo hi) a qs b t e =
      let s = says-equal (σ v) (value_of σ a) in
      subst (λ (rs : List Placed). PlacedTrue rs σ ↔ (σ v ≡ value_of σ a)) (the-list _ qs e) (λ h. s.0 h.0, λ h. (s.1 h, tt))
  equal-law v (among S) a qs b t e =
      let s = says-equal (σ v) (value_of σ a) in
      subst (λ (rs : List Placed). PlacedTrue rs σ ↔ (σ v ≡ value_of σ a)) (the-list _ qs e) (λ h. s.0 h.0, λ h. (s.1 h, tt))

  given-law : (v : ℕ) (d : Domain) (o : Option Atom) (qs : List Placed) → (d ≡ bools → Bit (σ v)) → GivenTyped F d o → given_items v d o ≡ Some qs →
      PlacedTrue qs σ ↔ IfSome o (λ a. σ v ≡ value_of σ a)
  unfolding given_items
  given-law v d None qs b t e = subst (λ (rs : List Placed). PlacedTrue rs σ ↔ IfSome None (λ (a : Atom). σ v ≡ value_of σ a)) (the-list [] qs e) (λ h. tt, λ h. tt)
  given-law v d (Some a) qs b t e = equal-law v d a qs b t e

  -- ---- the variables

  variables-law : (ds : List Declared) (v : ℕ) (α : Valuation) (qs : List Placed) → ((j : ℕ) → σ (v + j) ≡ α j) →
      ((k : ℕ) → k < length ds → (get_or ds k undeclared).domain ≡ bools → Bit (α k)) → All (λ d. GivenTyped F d.domain d.given) ds →
      variable_items v ds ≡ Some qs →
      (Keeps (map (λ d. domain_bounds d.domain) ds) α × PlacedTrue qs σ) ↔ (InDomains ds α × AsGiven σ ds α)
  unfolding variable_items
  variables-law [] v α qs e b t i =
      subst (λ (rs : List Placed). (Unit {0} × PlacedTrue rs σ) ↔ (InDomains [] α × AsGiven σ [] α)) (the-list [] qs i)
      (λ h. (λ k l. absurd (omega arith), λ k l. absurd (omega arith)), λ h. (tt, tt))
  variables-law (d ∷ ds) v α qs e b t i =
      let j = joined-parts (option_and_then (λ gs. Some (domain_items v d.domain ++ gs)) (given_items v d.domain d.given)) (variable_items (v + 1) ds) qs i in
      let f = front-parts (given_items v d.domain d.given) (domain_items v d.domain) j.0 j.1.1.0 in
      let h : σ v ≡ α zero = subst (λ (m : ℕ). σ m ≡ α zero) (omega arith) (e zero) in
      let r = variables-law ds (v + 1) (λ k. α (suc k)) j.1.0 (λ k. subst (λ (m : ℕ). σ m ≡ α (suc k)) (omega arith) (e (suc k)))
      (λ k l. b (suc k) (omega arith)) t.1 j.1.1.1 in
      let dom = domain-law d.domain v σ in
      let giv = given-law v d.domain d.given f.0 (λ w. subst Bit (sym h) (b zero (omega arith) w)) t.0 f.1.0 in
      let a = all_append (λ p. placed_true σ p ≡ true) (domain_items v d.domain) f.0 in
      let c = all_append (λ p. placed_true σ p ≡ true) j.0 j.1.0 in
      let x = at-front (λ k. in_domain (get_or (d ∷ ds) k undeclared).domain (α k) ≡ true) (length ds) in
      let y = at-front (λ k. IfSome (get_or (d ∷ ds) k undeclared).given (λ w. α k ≡ value_of σ w)) (length ds) in
      let dom' : (In (domain_bounds d.domain) (α zero) × PlacedTrue (domain_items v d.domain) σ) ↔ (in_domain d.domain (α zero) ≡ true) =
      subst (λ z. (In (domain_bounds d.domain) z × PlacedTrue (domain_items v d.domain) σ) ↔ (in_domain d.domain z ≡ true)) h dom in
      let giv' : PlacedTrue f.0 σ ↔ IfSome d.given (λ w. α zero ≡ value_of σ w) =
      subst (λ z. PlacedTrue f.0 σ ↔ IfSome d.given (λ w. z ≡ value_of σ w)) h giv in
      let whole_law : (Keeps (map (λ u. domain_bounds u.domain) (d ∷ ds)) α × PlacedTrue ((domain_items v d.domain ++ f.0) ++ j.1.0) σ) ↔ (InDomains (d ∷ ds) α × AsGiven σ (d ∷ ds) α) = (
        λ k.
            let p = (all_append (λ p. placed_true σ p ≡ true) (domain_items v d.domain ++ f.0) j.1.0).0 k.1 in
            let q = a.0 p.0 in
            let z = r.0 (k.0.1, p.1) in
            (x.1 (dom'.0 (k.0.0, q.0), z.0), y.1 (giv'.0 q.1, z.1)),
        λ k.
            let p = x.0 k.0 in let q = y.0 k.1 in let u = dom'.1 p.0 in let z = r.1 (p.1, q.1) in
            ((u.0, z.0), (all_append (λ p. placed_true σ p ≡ true) (domain_items v d.domain ++ f.0) j.1.0).1 (a.1 (u.1, giv'.1 q.0), z.1)),
      ) in
      subst (λ (rs : List Placed). (Keeps (map (λ u. domain_bounds u.domain) (d ∷ ds)) α × PlacedTrue rs σ) ↔ (InDomains (d ∷ ds) α × AsGiven σ (d ∷ ds) α))
      (ap (λ l. l ++ j.1.0) f.1.1 ∙ j.1.1.2) whole_law

-- ---- the whole list of items

kept-bit : (ds : List Declared) (α : Valuation) → Keeps (map (λ d. domain_bounds d.domain) ds) α → (k : ℕ) → k < length ds → (get_or ds k undeclared).domain ≡ bools → In bit (α k)
unfolding domain_bounds
kept-bit [] α h k l e = absurd (omega arith)
kept-bit (d ∷ ds) α h zero l e = subst (λ (D : Domain). In (domain_bounds D) (α zero)) e h.0
kept-bit (d ∷ ds) α h (suc k) l e = kept-bit ds (λ j. α (suc j)) h.1 k (omega arith) e

in-domain_bit : (D : Domain) (x : ℤ) → D ≡ bools → in_domain D x ≡ true → Bit x
unfolding in_domain
in-domain_bit D x e h = let i = (says-within bit x).0 (subst (λ (E : Domain). in_domain E x ≡ true) e h) in to-bit x i.0 i.1

module _ (F : FlatZinc) (P : Prepared) (e : prepared F ≡ Some P) (givens : All (λ d. GivenTyped F d.domain d.given) F.variables) (items : All (ItemTyped F) F.constraints) where
  made : (o : Option (List Placed)) → option_and_then (λ qs. Some (record { bounds = map (λ d. domain_bounds d.domain) F.variables; items = qs })) o ≡ Some P →
      (qs : List Placed) × ((o ≡ Some qs) × (record { bounds = map (λ d. domain_bounds d.domain) F.variables; items = qs } ≡ P))
  made None h = no_list P h
  made (Some qs) h = (qs, (refl, the-list _ P h))

  -- where the Boolean variables are 0 or 1
  list-law : (σ : Valuation) → ((v : ℕ) → IsBoolean F v → Bit (σ v)) →
      (Keeps P.bounds σ × PlacedTrue P.items σ) ↔ (InDomains F.variables σ × AsGiven σ F.variables σ × (all (item_true σ) F.constraints ≡ true))
  unfolding prepared
  list-law σ bits =
      let m = made (joined (variable_items 0 F.variables) (constraint_items F.constraints)) e in
      let j = joined-parts (variable_items 0 F.variables) (constraint_items F.constraints) m.0 m.1.0 in
      let r = variables-law F σ bits F.variables 0 σ j.0 (λ k. ap σ (omega arith)) (λ k l d. bits k (l, d)) givens j.1.1.0 in
      let c = constraints-law F σ bits F.constraints j.1.0 items j.1.1.1 in
      let a = all_append (λ p. placed_true σ p ≡ true) j.0 j.1.0 in
      let law : (Keeps (map (λ d. domain_bounds d.domain) F.variables) σ × PlacedTrue m.0 σ) ↔ (InDomains F.variables σ × AsGiven σ F.variables σ × (all (item_true σ) F.constraints ≡ true)) =
      subst (λ (qs : List Placed). (Keeps (map (λ d. domain_bounds d.domain) F.variables) σ × PlacedTrue qs σ) ↔ (InDomains F.variables σ × AsGiven σ F.variables σ × (all (item_true σ) F.constraints ≡ true)))
      j.1.1.2 (
        λ h. let p = a.0 h.1 in let q = r.0 (h.0, p.0) in (q.0, q.1, c.0 p.1),
        λ h. let q = r.1 (h.0, h.1) in (q.0, a.1 (q.1, c.1 h.2)),
      ) in
      subst (λ (Q : Prepared). (Keeps Q.bounds σ × PlacedTrue Q.items σ) ↔ (InDomains F.variables σ × AsGiven σ F.variables σ × (all (item_true σ) F.constraints ≡ true))) m.1.1 law

  bounds-are : map (λ d. domain_bounds d.domain) F.variables ≡ P.bounds
  unfolding prepared
  bounds-are = ap (λ (Q : Prepared). Q.bounds) (made (joined (variable_items 0 F.variables) (constraint_items F.constraints)) e).1.1

  as-many : length P.bounds ≡ length F.variables
  as-many = ap (λ (Bs : List Bounds). length Bs) (sym bounds-are) ∙ length-map F.variables (λ d. domain_bounds d.domain)

  pub prepared-law : (vs : List ℤ) → SatisfiesFlat F vs ↔ Sol P.bounds (PlacedTrue P.items) vs
  prepared-law vs = (
    λ s.
        let l = list-law (value vs) (λ v b. in-domain_bit (get_or F.variables v undeclared).domain (value vs v) b.1 (s.in_domains v b.0)) in
        let k = l.1 (s.in_domains, s.as_given, s.all_true) in
        (s.one_each ∙ sym as-many, k.0, k.1),
    λ s.
        let kept : Keeps (map (λ d. domain_bounds d.domain) F.variables) (value vs) = subst (λ (Bs : List Bounds). Keeps Bs (value vs)) (sym bounds-are) s.1 in
        let l = list-law (value vs) (λ v b. let i = kept-bit F.variables (value vs) kept v b.0 b.1 in to-bit (value vs v) i.0 i.1) in
        let k = l.0 (s.1, s.2) in
        record { one_each = s.0 ∙ as-many; in_domains = k.0; as_given = k.1; all_true = k.2 },
  )

-- ---- the whole

solves-as : (S : System) (vs : List ℤ) → Sol S.bounds (AllTrue S.builtins) vs ↔ Solves S vs
solves-as S vs =
    let s = satisfies S.bounds (meaning (value vs)) (True (value vs)) (λ b. (λ e. e, λ e. e)) S.builtins vs in
    (λ h. s.1 h, λ h. s.0 h)

all-shorter : (σ : Valuation) (bs : List Builtin) → AllTrue bs σ ↔ AllTrue (map shorter bs) σ
all-shorter σ bs =
    let m = all_map shorter (True σ) (True σ) (λ b. (λ h. sym (shorter-true σ b) ∙ h, λ h. shorter-true σ b ∙ h)) bs in (m.1, m.0)

-- FlatZinc that was prepared, whose atoms are declared and whose Boolean atoms are Boolean, is carried over to a system with constants and parts, if its
-- builtins are typed: a list of values of its variables satisfies it exactly when, with exactly one list of values of the constants and the parts, it
-- solves the system
pub flattening : (F : FlatZinc) (P : Prepared) (f : ℕ) → prepared F ≡ Some P →
    All (λ d. GivenTyped F d.domain d.given) F.variables → All (ItemTyped F) F.constraints →
    All (λ p. All (DeclaredAtom (length P.bounds)) p.atoms) P.items →
    let S = numbered P in
    All (Typed S.bounds) S.builtins →
    Carries (length (constants P.items) + length (split_all f S.bounds S.builtins).bounds) (SatisfiesFlat F) (Solves (with_parts f S))
unfolding numbered with_parts with_constants
flattening F P f e givens items declared typed =
    let table = constants P.items in
    let n = length P.bounds in
    let Bs = P.bounds ++ map constant_bounds table in
    let bs = clauses_from n table ++ map (with_numbers n table) P.items in
    let S : System = record { bounds = Bs; builtins = map shorter bs } in
    let c = constants_carry P.bounds table P.items (constants-known n P.items declared) in
    let first = carries_as (length table)
    (λ vs. let l = prepared-law F P e givens items vs in (l.1, l.0))
    (λ vs. let l = sol_as (AllTrue bs) (AllTrue (map shorter bs)) refl (λ σ. all-shorter σ bs) vs in let q = solves-as S vs in (λ h. q.0 (l.0 h), λ h. l.1 (q.1 h))) c in
    carries_through (length table) (length (split_all f Bs (map shorter bs)).bounds) first (split_carries f Bs (map shorter bs) typed)
