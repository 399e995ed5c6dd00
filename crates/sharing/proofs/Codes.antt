-- For each builtin: its block is sound and complete, fill has a value for each of its auxiliaries, no others make it good, its words are few and it is
-- well formed.
use Rattle.std.proofs.Common.{ℕ, zero, suc, ◌+◌, ◌≤◌, ◌<◌, ◌*◌, ◌≡◌, refl, sym, subst, ◌∙◌, ◌↔◌, Bool, true, false, ◌||◌, List, [], ◌∷◌, map, arith, ℤ, length, length-append, get_or, leb, ltb-false, leb-true}
use Rattle.words.specs.Limit as Limit
use Rattle.integers.specs.Terms.{Valuation, Term, ◌·◌}
use Rattle.integers.specs.declared.Bounds.{Bounds}
use Rattle.models.specs.Builtin.{Builtin, int_eq, int_le, int_lt, int_ne, int_le_reif, int_plus, int_times, int_abs, int_max, int_lin_eq, int_lin_le, int_lin_ne, int_lin_eq_reif, int_eq_reif, int_lin_le_reif, bool2int, bool_not, bool_and, bool_or, bool_xor, bool_clause, array_bool_and, array_bool_xor, array_int_element, array_var_int_element, array_int_maximum, set_in, set_in_reif, int_min, int_lt_reif, int_ne_reif, int_lin_ne_reif, array_int_minimum, bool_eq_reif, bool_le_reif, bool_lt_reif, int_div, int_mod, int_pow}
use Rattle.sharing.proofs.Basics.{Correct, exact}
use Rattle.sharing.proofs.Comparisons.{int_eq_exact, int_le_exact, int_lt_exact, int_ne_correct, int_le_reif_exact, int_lt_reif_exact}
use Rattle.sharing.proofs.Arithmetic.{int_plus_exact, int_times_correct, int_abs_correct, int_max_correct, int_min_correct}
use Rattle.sharing.proofs.Division.{int_div_correct, int_mod_correct}
use Rattle.sharing.proofs.Power.{powered-size, powered-few, powered-formed, int_pow_correct}
use Rattle.sharing.proofs.Linear.{int_lin_eq_exact, int_lin_le_exact, int_lin_ne_correct, int_lin_eq_reif_correct, int_eq_reif_correct, int_lin_le_reif_correct, int_ne_reif_correct, int_lin_ne_reif_correct}
use Rattle.sharing.proofs.Booleans.{bool2int-exact, bool_not_exact, bool_and_exact, bool_or_exact, bool_xor_correct, bool_eq_reif_correct, bool_le_reif_exact, bool_lt_reif_exact}
use Rattle.sharing.proofs.BooleanLists.{bool_clause_exact, array_bool_and_exact, array_bool_xor_correct}
use Rattle.sharing.proofs.Elements.{array_int_element_correct, array_var_int_element_correct}
use Rattle.sharing.proofs.Maximum.{array_int_maximum_correct, array_int_minimum_correct}
use Rattle.sharing.proofs.Sets.{set_in_correct, set_in_reif_correct}
use mathlib.Core.List.{zip_with}
use lib.ListN.{length-map}
use Rattle.integers.specs.Choice.{◌if◌else◌}
use Rattle.integers.specs.Number.{◌⊖◌, count, +0, +1, -1, -2}
use Rattle.integers.specs.Lists.{any}
use Rattle.integers.specs.Bounds.{width, values}
use Rattle.integers.proofs.Linear.{arith_z}
use Rattle.integers.proofs.Lists.{all_append, all-mapped, list_of-length}
use Rattle.integers.proofs.Tests.{In, All}
use Rattle.models.specs.Model.{Constraint, var, size, exponent_at, vars, nums, terms, builtins, builtin}
use Rattle.models.proofs.Arguments.{integer_arguments, boolean_arguments, builtin_words}
use Rattle.rules.specs.Block.{Ref, source, aux, Block}
use Rattle.rules.specs.Parts.{◌─◌≤0, ◌─◌=0, each, one, one_bit, chosen, products, nth, places, members}
use Rattle.rules.specs.Shared.{choice, encodes}
use Rattle.rules.specs.Check.{too_wide}
use Rattle.rules.specs.Division.{division_table, table_row, division_rows, remainder_row}
use Rattle.rules.specs.Rule.{rule, linked, sign_split, only_negative, where_one, where_zero, order_reified, absolute, touching, lin_not_equal, zero_rows, zero_reified, lin_less_equal_reified, same_rows, same_reified, number_element, variable_element, one_of, in_set, in_set_reified, division, left_over}
use Rattle.rules.specs.Pick.{pick, sign_pick, signed_pick, division_pick, left_over_pick}
use Rattle.rules.proofs.Members.{members-length}
use Rattle.rules.proofs.Lengths.{sources-length, each-length, weighted-length, values_length, bits-length}
use Rattle.sharing.proofs.Places.{value-place, places-length, all-nth, members_in}
use Rattle.sharing.proofs.Formed.{TermIn, RowIn, Formed, Short, bit-ordered, Z-ordered, end_products-ordered, L_U_ordered, bits-ordered, signed-ordered, gated-ordered, append_in, sources-terms, each_in, less_in, chosen_in, choice_in, products_in, linked_in, zero_reified-formed, one_of-formed, division-formed, left_over-formed}
use Rattle.sharing.proofs.Sizes.{total, row_size, total-append, total-map, total-same, products-size, first_only-size}

pub ruleset lengths = (length-append, length-map, sources-length, each-length, bits-length, weighted-length, total-append, total-map, products-size)

-- at most 8 words for each word of its constraint and 40 for each of its auxiliaries, and never more than 2,800
abbrev pub SmallRule : (ℕ → Bounds) → Builtin → Type 0
SmallRule β b =
    let n = 2 * length (rule β b).auxiliaries + total row_size (rule β b).rows in
    (n ≤ 8 * (1 + builtin_words b) + 40 * length (rule β b).auxiliaries) × (n ≤ 2800)

-- well formed over n variables, of which its arguments are
abbrev pub WellFormed : (ℕ → Bounds) → Builtin → Type 0
WellFormed β b = (n : ℕ) → All (λ v. v < n) (integer_arguments b) → All (λ v. v < n) (boolean_arguments b) → Formed n (rule β b)

-- what is proved of a builtin over variables with these bounds
pub record Laws (β : ℕ → Bounds) (b : Builtin) : Type 1 where
  -- the sizes that its block needs: lists of at most 32 elements, the x of 28 with at most 64 values
  pub Sizes : Type 0
  pub correct : (σ : Valuation) → Correct β σ b
  pub small : Sizes → SmallRule β b
  pub formed : Sizes → WellFormed β b

-- of a builtin with lists, whose block needs them to be of these sizes
abbrev pub limited : {β : ℕ → Bounds} {b : Builtin} (S : Type 0) → ((σ : Valuation) → Correct β σ b) → (S → SmallRule β b) → (S → WellFormed β b) → Laws β b
limited S c s f = record { Sizes = S; correct = c; small = s; formed = f }

-- of a builtin without
abbrev pub fixed : {β : ℕ → Bounds} {b : Builtin} → ((σ : Valuation) → Correct β σ b) → SmallRule β b → WellFormed β b → Laws β b
fixed c s f = limited (Unit {0}) c (λ _. s) (λ _. f)

unfoldable pub laws : (β : ℕ → Bounds) (b : Builtin) → Laws β b
unfolding integer_arguments boolean_arguments rule ◌─◌≤0 ◌─◌=0 only_negative where_one where_zero order_reified absolute touching lin_not_equal lin_less_equal_reified same_rows same_reified number_element variable_element one_of in_set in_set_reified sign_split builtin_words one_bit chosen linked zero_rows zero_reified pick sign_pick signed_pick division left_over division_rows remainder_row division_table table_row division_pick left_over_pick zip_with
laws β (int_eq a b) = fixed (λ σ. exact (int_eq_exact β σ a b) refl refl) (omega arith) (λ n h k. omega arith)
laws β (int_le a b) = fixed (λ σ. exact (int_le_exact β σ a b) refl refl) (omega arith) (λ n h k. omega arith)
laws β (int_lt a b) = fixed (λ σ. exact (int_lt_exact β σ a b) refl refl) (omega arith) (λ n h k. omega arith)
laws β (int_ne a b) = fixed (λ σ. int_ne_correct β σ a b) (omega arith) (λ n h k. omega arith_z)
laws β (int_le_reif a b r) = fixed (λ σ. exact (int_le_reif_exact β σ a b r) refl refl) (omega arith) (λ n h k. omega arith)
laws β (int_plus a b c) = fixed (λ σ. exact (int_plus_exact β σ a b c) refl refl) (omega arith) (λ n h k. omega arith)
laws β (int_times a b c) = fixed (λ σ. int_times_correct β σ a b c) (omega arith) (λ n h k. ((end_products-ordered (β a) (β b), tt), omega arith))
laws β (int_abs x y) = fixed (λ σ. int_abs_correct β σ x y) (omega arith) (λ n h k. ((bit-ordered, (Z-ordered (β x), tt)), omega arith))
laws β (int_max a b c) = fixed (λ σ. int_max_correct β σ a b c) (omega arith) (λ n h k. omega arith_z)
laws β (int_lin_eq asbs c) =
    limited (Short asbs) (λ σ. exact (int_lin_eq_exact β σ asbs c) refl refl)
    (λ s. simp lengths (omega (arith, s)))
    (λ s n h k. (tt, (sources-terms n 0 asbs s h, tt)))
laws β (int_lin_le asbs c) =
    limited (Short asbs) (λ σ. exact (int_lin_le_exact β σ asbs c) refl refl)
    (λ s. simp lengths (omega (arith, s)))
    (λ s n h k. (tt, (sources-terms n 0 asbs s h, tt)))
laws β (int_lin_ne asbs c) =
    limited (Short asbs) (λ σ. int_lin_ne_correct β σ asbs c)
    (λ s. simp lengths (omega (arith, s)))
    (λ s n h k. (signed-ordered β asbs c, (linked_in n β 3 asbs c (omega arith) s h, omega arith)))
laws β (int_lin_eq_reif asbs c r) =
    limited (Short asbs) (λ σ. int_lin_eq_reif_correct β σ asbs c r)
    (λ s. simp lengths (omega (arith, s)))
    (λ s n h k. zero_reified-formed n β true asbs c r s h k.0)
laws β (int_eq_reif a b r) =
    fixed (λ σ. int_eq_reif_correct β σ a b r) (simp lengths (omega arith)) (λ n h k. zero_reified-formed n β true (+1 · a ∷ -1 · b ∷ []) +0 r (omega arith) h k.0)
laws β (int_lin_le_reif asbs c r) =
    limited (Short asbs) (λ σ. int_lin_le_reif_correct β σ asbs c r)
    (λ s. simp lengths (omega (arith, s)))
    (λ s n h k. ((L_U_ordered β asbs c, tt), (linked_in n β 1 asbs c (omega arith) s h, omega arith)))
laws β (bool2int a b) = fixed (λ σ. exact (bool2int-exact β σ a b) refl refl) (omega arith) (λ n h k. omega arith)
laws β (bool_not a b) = fixed (λ σ. exact (bool_not_exact β σ a b) refl refl) (omega arith) (λ n h k. omega arith)
laws β (bool_and a b r) = fixed (λ σ. exact (bool_and_exact β σ a b r) refl refl) (omega arith) (λ n h k. omega arith)
laws β (bool_or a b r) = fixed (λ σ. exact (bool_or_exact β σ a b r) refl refl) (omega arith) (λ n h k. omega arith)
laws β (bool_xor a b r) = fixed (λ σ. bool_xor_correct β σ a b r) (omega arith) (λ n h k. omega arith_z)
laws β (bool_clause xs ys) =
    limited (Short xs × Short ys) (λ σ. exact (bool_clause_exact β σ xs ys) refl refl)
    (λ s. simp lengths (omega (arith, s.0, s.1)))
    (λ s n h k.
    let q = (all_append (λ v. v < n) xs ys).0 k in
    (tt, (append_in n 0 (each -1 xs) (each +1 ys) (simp each-length (omega arith)) (each_in n 0 -1 xs q.0) (each_in n 0 +1 ys q.1), tt)))
laws β (array_bool_and xs r) =
    limited (Short xs) (λ σ. exact (array_bool_and_exact β σ xs r) refl refl)
    (λ s. simp (lengths, total-same (λ x. row_size (source r ─ source x ≤0)) 6 (λ x. refl)) (omega (arith, s)))
    (λ s n h k. (
      tt,
      (all_append (RowIn n 0) (map (λ x. source r ─ source x ≤0) xs) _).1 (
        all-mapped (λ x. source r ─ source x ≤0) (λ v. v < n) (RowIn n 0) (λ v l. omega arith) xs k.1,
        (less_in n 0 (each +1 xs) r (simp each-length (omega arith)) k.0 (each_in n 0 +1 xs k.1), tt),
      ),
    ))
laws β (array_bool_xor xs) =
    limited (Short xs) (λ σ. array_bool_xor_correct β σ xs)
    (λ s. simp lengths (omega (arith, s)))
    (λ s n h k. (
      (omega arith_z, tt),
      (append_in n 1 (each +1 xs) (-2 · aux 0 ∷ []) (simp each-length (omega arith)) (each_in n 1 +1 xs k) (omega arith, tt), tt),
    ))
laws β (array_int_element i ns c) =
    limited (Short ns) (λ σ. array_int_element_correct β σ i ns c)
    (λ s. simp lengths (omega (arith, s, places-length (β i) (length ns))))
    (λ s n h k.
    let js = values (places (β i) (length ns)) in
    let l : length js ≤ length ns = places-length (β i) (length ns) in
    let m = length js in (
      bits-ordered js,
      rw bits-length (choice_in n m js i (omega arith) (omega arith) h.0
          (chosen_in n m (nth +0 ns) js 0 c (omega arith) (omega arith) h.1.0, tt)),
    ))
laws β (array_var_int_element i xs c) =
    limited (Short xs) (λ σ. array_var_int_element_correct β σ i xs c)
    (λ s. simp lengths (omega (arith, s, places-length (β i) (length xs))))
    (λ s n h k.
    let js = values (places (β i) (length xs)) in
    let l : length js ≤ length xs = places-length (β i) (length xs) in
    let m = length js + length js in
    let B : Block = variable_element β i xs c in
    let e : length B.auxiliaries ≡ m = simp (length-append, bits-length, length-map) in (
      gated-ordered β (nth 0 xs) js,
      subst (λ (j : ℕ). All (RowIn n j) B.rows) (sym e) (choice_in n m js i (omega arith) (omega arith) h.0
          ((all_append (RowIn n m) (products (nth 0 xs) js 0 (length js)) (chosen one js (length js) c ∷ [])).1 (
            products_in n m (nth 0 xs) js 0 (length js) (omega arith) (omega arith) (all-nth (λ v. v < n) 0 xs (β i) h.1.1),
            (chosen_in n m one js (length js) c (omega arith) (omega arith) h.1.0, tt),
          ))),
    ))
laws β (array_int_maximum m xs) =
    limited (Short xs) (λ σ. array_int_maximum_correct β σ m xs)
    (λ s. simp (lengths, total-same (λ x. row_size (source x ─ source m ≤0)) 6 (λ x. refl)) (omega (arith, s, first_only-size β (λ x. x) (λ x. m) xs 0 s)))
    (λ s n h k. one_of-formed n β (λ x. x) (λ x. m) m xs s h.0 h.1 (λ x l. (l, h.0)))
laws β (set_in x S) =
    limited (Short S) (λ σ. set_in_correct β σ x S)
    (λ s. simp lengths (omega (arith, s, members-length S (β x))))
    (λ s n h k.
    let vs = members S (β x) in
    let l : length vs ≤ length S = members-length S (β x) in
    (bits-ordered vs, rw bits-length (choice_in n (length vs) vs x (omega arith) (omega arith) h.0 tt)))
laws β (set_in_reif x S r) =
    limited (Short S × (width (β x) ≤ Limit.set_bits)) (λ σ. set_in_reif_correct β σ x S r)
    (λ s. simp lengths (omega (arith, s.0, s.1, values_length (β x), members-length S (β x))))
    (λ s n h k.
    let vs = values (β x) in
    let ms = members S (β x) in
    let e : length vs ≡ width (β x) = values_length (β x) in
    let l : length ms ≤ length S = members-length S (β x) in
    let place : ℤ → Term Ref = λ v. +1 · aux (count (v ⊖ (β x).lower)) in (
      bits-ordered vs,
      rw bits-length (choice_in n (length vs) vs x (omega arith) (omega arith) h.0 (
        less_in n (length vs) (map place ms) r (simp length-map (omega arith)) k.0
            (all-mapped place (In (β x)) (TermIn n (length vs)) (λ v i. rw e (value-place (β x) v i)) ms (members_in S (β x))),
        tt,
      )),
    ))
laws β (int_min a b c) = fixed (λ σ. int_min_correct β σ a b c) (omega arith) (λ n h k. omega arith_z)
laws β (int_lt_reif a b r) = fixed (λ σ. exact (int_lt_reif_exact β σ a b r) refl refl) (omega arith) (λ n h k. omega arith)
laws β (int_ne_reif a b r) =
    fixed (λ σ. int_ne_reif_correct β σ a b r) (simp lengths (omega arith)) (λ n h k. zero_reified-formed n β false (+1 · a ∷ -1 · b ∷ []) +0 r (omega arith) h k.0)
laws β (int_lin_ne_reif asbs c r) =
    limited (Short asbs) (λ σ. int_lin_ne_reif_correct β σ asbs c r)
    (λ s. simp lengths (omega (arith, s)))
    (λ s n h k. zero_reified-formed n β false asbs c r s h k.0)
laws β (array_int_minimum m xs) =
    limited (Short xs) (λ σ. array_int_minimum_correct β σ m xs)
    (λ s. simp (lengths, total-same (λ x. row_size (source m ─ source x ≤0)) 6 (λ x. refl)) (omega (arith, s, first_only-size β (λ x. m) (λ x. x) xs 0 s)))
    (λ s n h k. one_of-formed n β (λ x. m) (λ x. x) m xs s h.0 h.1 (λ x l. (h.0, l)))
laws β (bool_eq_reif a b r) = fixed (λ σ. bool_eq_reif_correct β σ a b r) (omega arith) (λ n h k. omega arith_z)
laws β (bool_le_reif a b r) = fixed (λ σ. exact (bool_le_reif_exact β σ a b r) refl refl) (omega arith) (λ n h k. omega arith)
laws β (bool_lt_reif a b r) = fixed (λ σ. exact (bool_lt_reif_exact β σ a b r) refl refl) (omega arith) (λ n h k. omega arith)
laws β (int_div n d q) = fixed (λ σ. int_div_correct β σ n d q) (omega arith) (λ v h k. division-formed v β n d q h.0 h.1.0 h.1.1.0)
laws β (int_mod n d r) = fixed (λ σ. int_mod_correct β σ n d r) (omega arith) (λ v h k. left_over-formed v β n d r h.0 h.1.0 h.1.1.0)
laws β (int_pow x k z) =
    limited (k ≤ Limit.exponent) (λ σ. int_pow_correct β σ x k z)
    (λ s. omega (arith, powered-size β x k z, powered-few β x k z, s))
    (λ s n h l. powered-formed n β x k z h.0 h.1.0)

-- ---- the builtins of constraints that are not too wide

-- what holds of every place of a table and its entry
abbrev AllAt : {A : Type 0} → (ℕ → A → Type 0) → List A → Type 0
AllAt P [] = Unit {0}
AllAt P (x ∷ xs) = P 0 x × AllAt (λ k. P (suc k)) xs

entry : {A : Type 0} (P : ℕ → A → Type 0) (xs : List A) (d : A) → AllAt P xs → ((k : ℕ) → P k d) → (k : ℕ) → P k (get_or xs k d)
entry P [] d h p k = p k
entry P (x ∷ xs) d h p zero = h.0
entry P (x ∷ xs) d h p (suc k) = entry (λ k. P (suc k)) xs d h.1 (λ k. p (suc k)) k

capped : (n m : ℕ) → (n if leb n m else m) ≤ m
capped n m = go (leb n m) refl
  where
    go : (b : Bool) → leb n m ≡ b → (n if b else m) ≤ m
    go true e = leb-true n m e
    go false e = omega arith

-- rules of `simp` that take away what is plain: a length that is read is at most 32, an exponent at most 27
size_small : (ws : List ℕ) (i : ℕ) → (size ws i ≤ Limit.list_length) ↔ Unit {0}
unfolding size
size_small ws i = (λ h. tt, λ t. capped (var ws i) Limit.list_length)

exponent_small : (ws : List ℕ) (i : ℕ) → (exponent_at ws i ≤ Limit.exponent) ↔ Unit {0}
unfolding exponent_at
exponent_small ws i = (λ h. tt, λ t. capped (var ws i) Limit.exponent)

function_unit : (A : Type 0) → (A → Unit {0}) ↔ Unit {0}
function_unit A = (λ h. tt, λ t a. tt)

pair_unit : (A : Type 0) → (Unit {0} × A) ↔ A
pair_unit A = (λ h. h.1, λ a. (tt, a))

pub any-one : {A : Type 0} (t : A → Bool) (x : A) → any t (x ∷ []) ≡ t x
unfolding any
any-one t x = go (t x)
  where
    go : (b : Bool) → (b || false) ≡ b
    go true = refl
    go false = refl

-- 28's x has at most 64 values
narrow-28 : (β : ℕ → Bounds) (s : ℕ → Bool) (c : Constraint) → too_wide β s c ≡ false → c.code ≡ 28 → width (β (var c.arguments 0)) ≤ Limit.set_bits
unfolding too_wide choice encodes
narrow-28 β s c e d = ltb-false _ _ (sym (any-one _ _) ∙ (rw d at e))

pub sized : (β : ℕ → Bounds) (s : ℕ → Bool) (c : Constraint) → too_wide β s c ≡ false → (laws β (builtin c)).Sizes
unfolding builtin builtins laws vars nums terms
sized β s c e = entry Sized builtins (λ ws. int_eq 0 0) table (λ k ws w. tt) c.code c.arguments (narrow-28 β s c e)
  where
    Sized : ℕ → (List ℕ → Builtin) → Type 0
    Sized k f = (ws : List ℕ) → (k ≡ 28 → width (β (var ws 0)) ≤ Limit.set_bits) → (laws β (f ws)).Sizes

    table : AllAt Sized builtins
    table = simp (list_of-length, size_small, exponent_small, function_unit, pair_unit) (λ ws w. w refl, tt)
