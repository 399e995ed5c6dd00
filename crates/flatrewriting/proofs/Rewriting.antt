-- Rewriting is right for every list of values: all of the new are true exactly where the old one is.
use Rattle.std.proofs.Common.{◌≡◌, refl, sym, ap, ap₂, ◌∙◌, subst, ◌↔◌, Bool, true, false, not, ◌&&◌, ◌||◌, List, [], ◌∷◌, ◌++◌, ℕ, zero, suc, ◌+◌, ◌<◌, arith, leb, ℤ, length, get_or, Option, Some, None}
use lib.ListN.{get_or-append}
use lib.Signed.{le_z, lt_z}
use Rattle.std.proofs.lemmas.List.{get_or-append-add}
use Rattle.integers.specs.Choice.{◌if◌else◌}
use Rattle.integers.specs.Number.{◌≟◌, ◌⊕◌, ◌⊖◌, ◌⊗◌, +0, +1, -1}
use Rattle.integers.specs.Lists.{list_of, all, any}
use Rattle.integers.specs.Bounds.{◌to◌, within, width, values}
use Rattle.integers.specs.Terms.{Valuation, Term, sum}
use Rattle.integers.proofs.Linear.{◌⊑◌, ◌⊏◌, linear}
use Rattle.integers.proofs.Bits.{Bit, b0, b1}
use Rattle.integers.proofs.Booleans.{and-true, or-true, both_true}
use Rattle.integers.proofs.Places.{all_append, any-map}
use Rattle.integers.proofs.Tests.{All, false-true, says-equal, says-le, says-lt, says-within, says_any, same_test}
use Rattle.words.specs.Limit as Limit
use Rattle.models.specs.Builtin.{Builtin, int_lin_eq, int_lin_le, int_lin_ne, int_lin_le_reif, int_eq, int_ne, int_le, int_lt, int_le_reif, int_lt_reif, bool_not, bool_clause, set_in}
use Rattle.models.specs.Meaning.{meaning, on, off, member, ◌iff◌}
use Rattle.rules.proofs.Members.{values-member}
use Rattle.flatzinc.proofs.Plain.{the-list, no_list}
use Rattle.flatzinc.specs.declared.Atom.{Atom}
use Rattle.flatzinc.specs.declared.Atom.TheVariants.{Whole, Truth, Variable}
use Rattle.flatzinc.specs.Items.{Placed, placed, Item, coded, bool_eq, bool_le, bool_lt, bool_unequal, array_bool_or, set_in_range, value_of, is_true, placed_true, item_true}
use Rattle.flatrewriting.specs.Rewritten.{is_constant, without, clause_of, clauses, each_clause, difference, shorter, at_places, simplified_as, simplified, rewritten}

turned : {A B : Type 0} → A ↔ B → B ↔ A
turned l = (l.1, l.0)

-- a list by its places, of which a test may be another one
any-at : {A : Type 0} (t : A → Bool) (h : ℕ → Bool) (f : ℕ → ℕ) (d : A) (xs : List A) → ((k : ℕ) → k < length xs → h (f k) ≡ t (get_or xs k d)) →
    any h (list_of f (length xs)) ≡ any t xs
unfolding any list_of
any-at t h f d [] e = refl
any-at t h f d (x ∷ xs) e = ap₂ ◌||◌ (e zero (omega arith)) (any-at t h (λ k. f (suc k)) d xs (λ k l. e (suc k) (omega arith)))

module _ (σ : Valuation) where
  abbrev pub is_false : Atom → Bool
  is_false a = value_of σ a ≟ +0

  abbrev pub AllPlaced : List Placed → Bool
  AllPlaced ps = all (placed_true σ) ps

  -- ---- clauses

  clause-true : (as₁ bs : List Atom) → placed_true σ (clause_of as₁ bs) ≡ (any (is_true σ) as₁ || any is_false bs)
  unfolding placed_true meaning on off is_true
  clause-true as₁ bs =
      ap₂ ◌||◌
      (any-at (is_true σ) (λ v. value_of σ (get_or (as₁ ++ bs) v (Whole +0)) ≟ +1) (λ k. length {A = Atom} [] + k) (Whole +0) as₁
      (λ k l. ap (λ a. value_of σ a ≟ +1) (ap (λ (i : ℕ). get_or (as₁ ++ bs) i (Whole +0)) (omega arith) ∙ get_or-append as₁ bs (Whole +0) k l)))
      (any-at is_false (λ v. value_of σ (get_or (as₁ ++ bs) v (Whole +0)) ≟ +0) (λ k. length as₁ + k) (Whole +0) bs
      (λ k l. ap (λ a. value_of σ a ≟ +0) (get_or-append-add as₁ bs k (Whole +0))))

  true-is_true : (a : Atom) → is_constant true a ≡ true → is_true σ a ≡ true
  unfolding is_constant is_true value_of ◌≟◌
  true-is_true (Whole n) e = false-true e
  true-is_true (Truth true) e = refl
  true-is_true (Truth false) e = false-true e
  true-is_true (Variable v) e = false-true e

  false-is_false : (a : Atom) → is_constant false a ≡ true → is_false a ≡ true
  unfolding is_constant value_of ◌≟◌
  false-is_false (Whole n) e = false-true e
  false-is_false (Truth true) e = false-true e
  false-is_false (Truth false) e = refl
  false-is_false (Variable v) e = false-true e

  false-not_true : (a : Atom) → is_constant false a ≡ true → is_true σ a ≡ false
  unfolding is_constant is_true value_of ◌≟◌
  false-not_true (Whole n) e = false-true e
  false-not_true (Truth true) e = false-true e
  false-not_true (Truth false) e = refl
  false-not_true (Variable v) e = false-true e

  true-not_false : (a : Atom) → is_constant true a ≡ true → is_false a ≡ false
  unfolding is_constant value_of ◌≟◌
  true-not_false (Whole n) e = false-true e
  true-not_false (Truth true) e = refl
  true-not_false (Truth false) e = false-true e
  true-not_false (Variable v) e = false-true e

  some-constant : (b : Bool) (t : Atom → Bool) → ((a : Atom) → is_constant b a ≡ true → t a ≡ true) → (as₁ : List Atom) →
      any (is_constant b) as₁ ≡ true → any t as₁ ≡ true
  unfolding any
  some-constant b t f [] e = false-true e
  some-constant b t f (a ∷ as₁) e = go (some-constant b t f as₁) (is_constant b a) refl e
    where
      go : (any (is_constant b) as₁ ≡ true → any t as₁ ≡ true) → (s : Bool) → is_constant b a ≡ s → (s || any (is_constant b) as₁) ≡ true → (t a || any t as₁) ≡ true
      go again true i e = rw (f a i) refl
      go again false i e = rw (again e) (or-true (t a))

  none-lost : (b : Bool) (t : Atom → Bool) → ((a : Atom) → is_constant b a ≡ true → t a ≡ false) → (as₁ : List Atom) → any t (without b as₁) ≡ any t as₁
  unfolding any without
  none-lost b t f [] = refl
  none-lost b t f (a ∷ as₁) = go (none-lost b t f as₁) (is_constant b a) refl
    where
      go : any t (without b as₁) ≡ any t as₁ → (s : Bool) → is_constant b a ≡ s → any t (without b as₁ if s else a ∷ without b as₁) ≡ (t a || any t as₁)
      go again true i = rw (f a i) again
      go again false i = ap (λ x. t a || x) again

  pub clauses-true : (as₁ bs : List Atom) → AllPlaced (clauses as₁ bs) ≡ (any (is_true σ) as₁ || any is_false bs)
  unfolding clauses all
  clauses-true as₁ bs = go (any (is_constant true) as₁) (any (is_constant false) bs) refl refl
    where
      go : (s t : Bool) → any (is_constant true) as₁ ≡ s → any (is_constant false) bs ≡ t →
          AllPlaced ([] if s || t else clause_of (without false as₁) (without true bs) ∷ []) ≡ (any (is_true σ) as₁ || any is_false bs)
      go true t e f = rw (some-constant true (is_true σ) true-is_true as₁ e) refl
      go false true e f = rw (some-constant false is_false false-is_false bs f) (sym (or-true (any (is_true σ) as₁)))
      go false false e f =
          and-true (placed_true σ (clause_of (without false as₁) (without true bs))) ∙ clause-true (without false as₁) (without true bs)
          ∙ ap₂ ◌||◌ (none-lost false (is_true σ) false-not_true as₁) (none-lost true is_false true-not_false bs)

  -- ---- what they say of values 0 and 1

  eq_bits : (x : ℤ) → Bit x → (y : ℤ) → Bit y → ((((x ≟ +1) || false) || ((y ≟ +0) || false)) && (((y ≟ +1) || false) || ((x ≟ +0) || false))) ≡ (x ≟ y)
  unfolding ◌≟◌
  eq_bits x b0 y b0 = refl
  eq_bits x b0 y b1 = refl
  eq_bits x b1 y b0 = refl
  eq_bits x b1 y b1 = refl

  le_bits : (x : ℤ) → Bit x → (y : ℤ) → Bit y → (((y ≟ +1) || false) || ((x ≟ +0) || false)) ≡ le_z x y
  unfolding ◌≟◌
  le_bits x b0 y b0 = refl
  le_bits x b0 y b1 = refl
  le_bits x b1 y b0 = refl
  le_bits x b1 y b1 = refl

  lt-bits : (x : ℤ) → Bit x → (y : ℤ) → Bit y → ((((y ≟ +1) || false) || false) && (false || ((x ≟ +0) || false))) ≡ lt_z x y
  unfolding ◌≟◌
  lt-bits x b0 y b0 = refl
  lt-bits x b0 y b1 = refl
  lt-bits x b1 y b0 = refl
  lt-bits x b1 y b1 = refl

  each-true : (r : Atom) (as₁ : List Atom) → All (λ a. Bit (value_of σ a)) as₁ →
      AllPlaced (each_clause r as₁) ≡ (is_true σ r || not (any (is_true σ) as₁))
  unfolding each_clause all any is_true ◌≟◌
  each-true r [] h = sym (or-true (is_true σ r))
  each-true r (a ∷ as₁) h =
      all_append (placed_true σ) (clauses (r ∷ []) (a ∷ [])) (each_clause r as₁)
      ∙ ap₂ ◌&&◌ (clauses-true (r ∷ []) (a ∷ [])) (each-true r as₁ h.1)
      ∙ more (value_of σ r ≟ +1) (value_of σ a) h.0 (any (is_true σ) as₁)
    where
      more : (q : Bool) (x : ℤ) → Bit x → (s : Bool) → (((q || false) || ((x ≟ +0) || false)) && (q || not s)) ≡ (q || not ((x ≟ +1) || s))
      more true x b0 s = refl
      more true x b1 s = refl
      more false x b0 s = refl
      more false x b1 s = refl

  or_bits : (x : ℤ) → Bit x → (s : Bool) → ((s || ((x ≟ +0) || false)) && ((x ≟ +1) || not s)) ≡ (x ≟ +1 iff s)
  unfolding ◌≟◌
  or_bits x b0 true = refl
  or_bits x b0 false = refl
  or_bits x b1 true = refl
  or_bits x b1 false = refl

  -- ---- a range

  in-range : (lo hi x : ℤ) → member x (values (lo to hi)) ≡ within (lo to hi) x
  unfolding member
  in-range lo hi x = same_test (says_any (λ v. x ≟ v) (λ v. x ≡ v) (λ v. says-equal x v) (values (lo to hi))) (says-within (lo to hi) x) (values-member (lo to hi) x)

  -- ---- the items

  -- the Boolean atoms of the items without a code are 0 or 1
  abbrev pub BooleanAtoms : Item → Type 0
  BooleanAtoms (coded c vs) = Unit {0}
  BooleanAtoms (bool_eq a b) = Bit (value_of σ a) × Bit (value_of σ b)
  BooleanAtoms (bool_le a b) = Bit (value_of σ a) × Bit (value_of σ b)
  BooleanAtoms (bool_lt a b) = Bit (value_of σ a) × Bit (value_of σ b)
  BooleanAtoms (bool_unequal a b) = Bit (value_of σ a) × Bit (value_of σ b)
  BooleanAtoms (array_bool_or as₁ r) = All (λ a. Bit (value_of σ a)) as₁ × Bit (value_of σ r)
  BooleanAtoms (set_in_range x lo hi) = Unit {0}

  range-true : (lo hi : ℤ) (x : Atom) → AllPlaced (record { builtin = int_le 0 1; atoms = Whole lo ∷ x ∷ [] } ∷ record { builtin = int_le 0 1; atoms = x ∷ Whole hi ∷ [] } ∷ []) ≡ within (lo to hi) (value_of σ x)
  unfolding all placed_true meaning within value_of
  range-true lo hi x = ap (λ b. le_z lo (value_of σ x) && b) (and-true (le_z (value_of σ x) hi))

  simplified-true : (as₁ : List Atom) (b : Builtin) → AllPlaced (simplified_as as₁ b) ≡ placed_true σ (record { builtin = b; atoms = as₁ })
  unfolding simplified_as placed_true all meaning on off is_true
  simplified-true as₁ (bool_clause xs ys) =
      clauses-true (at_places as₁ xs) (at_places as₁ ys)
      ∙ ap₂ ◌||◌ (any-map (is_true σ) (λ k. get_or as₁ k (Whole +0)) xs) (any-map is_false (λ k. get_or as₁ k (Whole +0)) ys)
  simplified-true as₁ b = and-true _

  -- every item that is rewritten
  pub rewritten-true : (i : Item) (ps : List Placed) → BooleanAtoms i → rewritten i ≡ Some ps → AllPlaced ps ≡ item_true σ i
  unfolding rewritten item_true is_true all any placed_true meaning within
  rewritten-true (coded c vs) ps h e = go (placed c vs) e
    where
      go : (o : Option Placed) → (elim o as (λ x. Option (List Placed)) [ None ↦ None | Some p ↦ Some (simplified p) ]) ≡ Some ps →
          AllPlaced ps ≡ (elim o as (λ x. Bool) [ None ↦ false | Some p ↦ placed_true σ p ])
      go None e = no_list ps e
      go (Some p) e = subst (λ (qs : List Placed). AllPlaced qs ≡ placed_true σ p) (the-list (simplified p) ps e) (simplified-true p.atoms p.builtin)
  rewritten-true (bool_eq a b) ps h e =
      let qs = clauses (a ∷ []) (b ∷ []) ++ clauses (b ∷ []) (a ∷ []) in
      subst (λ (rs : List Placed). AllPlaced rs ≡ item_true σ (bool_eq a b)) (the-list qs ps e)
      (all_append (placed_true σ) (clauses (a ∷ []) (b ∷ [])) (clauses (b ∷ []) (a ∷ []))
      ∙ ap₂ ◌&&◌ (clauses-true (a ∷ []) (b ∷ [])) (clauses-true (b ∷ []) (a ∷ [])) ∙ eq_bits (value_of σ a) h.0 (value_of σ b) h.1)
  rewritten-true (bool_le a b) ps h e =
      subst (λ (rs : List Placed). AllPlaced rs ≡ item_true σ (bool_le a b)) (the-list (clauses (b ∷ []) (a ∷ [])) ps e)
      (clauses-true (b ∷ []) (a ∷ []) ∙ le_bits (value_of σ a) h.0 (value_of σ b) h.1)
  rewritten-true (bool_lt a b) ps h e =
      subst (λ (rs : List Placed). AllPlaced rs ≡ item_true σ (bool_lt a b)) (the-list (clauses (b ∷ []) [] ++ clauses [] (a ∷ [])) ps e)
      (all_append (placed_true σ) (clauses (b ∷ []) []) (clauses [] (a ∷ []))
      ∙ ap₂ ◌&&◌ (clauses-true (b ∷ []) []) (clauses-true [] (a ∷ [])) ∙ lt-bits (value_of σ a) h.0 (value_of σ b) h.1)
  rewritten-true (bool_unequal a b) ps h e =
      subst (λ (rs : List Placed). AllPlaced rs ≡ item_true σ (bool_unequal a b)) (the-list (record { builtin = bool_not 0 1; atoms = a ∷ b ∷ [] } ∷ []) ps e)
      (and-true (not (value_of σ a ≟ value_of σ b)))
  rewritten-true (array_bool_or as₁ r) ps h e =
      subst (λ (rs : List Placed). AllPlaced rs ≡ item_true σ (array_bool_or as₁ r)) (the-list (clauses as₁ (r ∷ []) ++ each_clause r as₁) ps e)
      (all_append (placed_true σ) (clauses as₁ (r ∷ [])) (each_clause r as₁)
      ∙ ap₂ ◌&&◌ (clauses-true as₁ (r ∷ [])) (each-true r as₁ h.0) ∙ or_bits (value_of σ r) h.1 (any (is_true σ) as₁))
  rewritten-true (set_in_range x lo hi) ps h e = go (leb (width (lo to hi)) Limit.list_length) e
    where
      go : (t : Bool) → (Some (record { builtin = set_in 0 (values (lo to hi)); atoms = x ∷ [] } ∷ []) if t
          else Some (record { builtin = int_le 0 1; atoms = Whole lo ∷ x ∷ [] } ∷ record { builtin = int_le 0 1; atoms = x ∷ Whole hi ∷ [] } ∷ [])) ≡ Some ps →
          AllPlaced ps ≡ within (lo to hi) (value_of σ x)
      go true e =
          subst (λ (rs : List Placed). AllPlaced rs ≡ within (lo to hi) (value_of σ x)) (the-list (record { builtin = set_in 0 (values (lo to hi)); atoms = x ∷ [] } ∷ []) ps e)
          (and-true (member (value_of σ x) (values (lo to hi))) ∙ in-range lo hi (value_of σ x))
      go false e =
          subst (λ (rs : List Placed). AllPlaced rs ≡ within (lo to hi) (value_of σ x))
          (the-list (record { builtin = int_le 0 1; atoms = Whole lo ∷ x ∷ [] } ∷ record { builtin = int_le 0 1; atoms = x ∷ Whole hi ∷ [] } ∷ []) ps e)
          (range-true lo hi x)

-- ---- sums of two

unequal-sum : (x y s c : ℤ) → c ≡ +0 → s ≡ x ⊖ y → (s ≡ c) ↔ (x ≡ y)
unequal-sum = simp linear (omega arith)

le-sum : (x y s c : ℤ) → c ≡ +0 → s ≡ x ⊖ y → (s ⊑ c) ↔ (x ⊑ y)
le-sum = simp linear (omega arith)

lt_sum : (x y s c : ℤ) → c ≡ -1 → s ≡ x ⊖ y → (s ⊑ c) ↔ (x ⊏ y)
lt_sum = simp linear (omega arith)

two-terms : (a b x y : ℤ) → a ≡ +1 → b ≡ -1 → a ⊗ x ⊕ (b ⊗ y ⊕ +0) ≡ x ⊖ y
two-terms a b x y e f = rw (e, f) (plain x y)
  where
    plain : (x y : ℤ) → +1 ⊗ x ⊕ (-1 ⊗ y ⊕ +0) ≡ x ⊖ y
    plain = simp linear (omega arith)

terms-two : (a b x y : ℤ) → a ≡ -1 → b ≡ +1 → a ⊗ x ⊕ (b ⊗ y ⊕ +0) ≡ y ⊖ x
terms-two a b x y e f = rw (e, f) (plain x y)
  where
    plain : (x y : ℤ) → -1 ⊗ x ⊕ (+1 ⊗ y ⊕ +0) ≡ y ⊖ x
    plain = simp linear (omega arith)

module _ (σ : Valuation) where
  -- a builtin that says the same where the sum is a difference
  difference-true : (ts : List (Term ℕ)) (b : Builtin) (make : ℕ → ℕ → Builtin) →
      ((x y : ℕ) → sum σ ts ≡ σ x ⊖ σ y → meaning σ (make x y) ≡ meaning σ b) → meaning σ (difference ts b make) ≡ meaning σ b
  unfolding difference sum
  difference-true (s ∷ t ∷ []) b make f =
      go ((s.coefficient ≟ +1) && (t.coefficient ≟ -1)) ((s.coefficient ≟ -1) && (t.coefficient ≟ +1)) refl refl
    where
      go : (p q : Bool) → ((s.coefficient ≟ +1) && (t.coefficient ≟ -1)) ≡ p → ((s.coefficient ≟ -1) && (t.coefficient ≟ +1)) ≡ q →
          meaning σ (make s.variable t.variable if p else make t.variable s.variable if q else b) ≡ meaning σ b
      go true q e g =
          let h = both_true (s.coefficient ≟ +1) (t.coefficient ≟ -1) e in
          f s.variable t.variable (two-terms s.coefficient t.coefficient (σ s.variable) (σ t.variable) ((says-equal s.coefficient +1).0 h.0) ((says-equal t.coefficient -1).0 h.1))
      go false true e g =
          let h = both_true (s.coefficient ≟ -1) (t.coefficient ≟ +1) g in
          f t.variable s.variable (terms-two s.coefficient t.coefficient (σ s.variable) (σ t.variable) ((says-equal s.coefficient -1).0 h.0) ((says-equal t.coefficient +1).0 h.1))
      go false false e g = refl
  difference-true ts b make f = refl

  test_two : (c : ℤ) (G : Bool → Bool → Type 0) → (c ≡ +0 → (t : Bool) → G true t) → (c ≡ -1 → G false true) → G false false → G (c ≟ +0) (c ≟ -1)
  test_two c G f g h = go (c ≟ +0) (c ≟ -1) refl refl
    where
      go : (s t : Bool) → (c ≟ +0) ≡ s → (c ≟ -1) ≡ t → G s t
      go true t e i = f ((says-equal c +0).0 e) t
      go false true e i = g ((says-equal c -1).0 i)
      go false false e i = h

  pub shorter-true : (b : Builtin) → meaning σ (shorter b) ≡ meaning σ b
  unfolding shorter meaning
  shorter-true (int_lin_eq ts c) =
      test_two c (λ s t. meaning σ (difference ts (int_lin_eq ts c) int_eq if s else int_lin_eq ts c) ≡ meaning σ (int_lin_eq ts c))
      (λ e t. difference-true ts (int_lin_eq ts c) int_eq (λ x y i. same_test (says-equal (σ x) (σ y)) (says-equal (sum σ ts) c) (turned (unequal-sum (σ x) (σ y) (sum σ ts) c e i))))
      (λ e. refl) refl
  shorter-true (int_lin_ne ts c) =
      test_two c (λ s t. meaning σ (difference ts (int_lin_ne ts c) int_ne if s else int_lin_ne ts c) ≡ meaning σ (int_lin_ne ts c))
      (λ e t. difference-true ts (int_lin_ne ts c) int_ne (λ x y i. ap not (same_test (says-equal (σ x) (σ y)) (says-equal (sum σ ts) c) (turned (unequal-sum (σ x) (σ y) (sum σ ts) c e i)))))
      (λ e. refl) refl
  shorter-true (int_lin_le ts c) =
      test_two c (λ s t. meaning σ (difference ts (int_lin_le ts c) int_le if s else difference ts (int_lin_le ts c) int_lt if t else int_lin_le ts c) ≡ meaning σ (int_lin_le ts c))
      (λ e t. difference-true ts (int_lin_le ts c) int_le (λ x y i. same_test (says-le (σ x) (σ y)) (says-le (sum σ ts) c) (turned (le-sum (σ x) (σ y) (sum σ ts) c e i))))
      (λ e. difference-true ts (int_lin_le ts c) int_lt (λ x y i. same_test (says-lt (σ x) (σ y)) (says-le (sum σ ts) c) (turned (lt_sum (σ x) (σ y) (sum σ ts) c e i)))) refl
  shorter-true (int_lin_le_reif ts c r) =
      test_two c (λ s t. meaning σ (difference ts (int_lin_le_reif ts c r) (λ a b. int_le_reif a b r) if s else difference ts (int_lin_le_reif ts c r) (λ a b. int_lt_reif a b r) if t else int_lin_le_reif ts c r) ≡ meaning σ (int_lin_le_reif ts c r))
      (λ e t. difference-true ts (int_lin_le_reif ts c r) (λ a b. int_le_reif a b r) (λ x y i. ap (λ q. on σ r iff q) (same_test (says-le (σ x) (σ y)) (says-le (sum σ ts) c) (turned (le-sum (σ x) (σ y) (sum σ ts) c e i)))))
      (λ e. difference-true ts (int_lin_le_reif ts c r) (λ a b. int_lt_reif a b r) (λ x y i. ap (λ q. on σ r iff q) (same_test (says-lt (σ x) (σ y)) (says-le (sum σ ts) c) (turned (lt_sum (σ x) (σ y) (sum σ ts) c e i))))) refl
  shorter-true b = refl
