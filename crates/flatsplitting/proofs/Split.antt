-- Every cut that is made is right; so a system of typed builtins is carried over to its split one.
use Rattle.std.proofs.Common.{◌≡◌, refl, sym, ap, ◌∙◌, subst, Bool, true, false, not, ◌||◌, List, [], ◌∷◌, ◌++◌, ℕ, ltb, ℤ, length, Option, Some, None}
use Rattle.integers.specs.Choice.{◌if◌else◌}
use Rattle.integers.specs.Lists.{all, any}
use Rattle.integers.specs.Terms.{Valuation}
use Rattle.integers.specs.declared.Bounds.{Bounds}
use Rattle.integers.proofs.Lists.{all_append}
use Rattle.integers.proofs.Tests.{All, false-true}
use Rattle.words.specs.Limit as Limit
use Rattle.models.specs.Builtin.{Builtin, int_lin_eq, int_lin_le, int_lin_ne, int_lin_eq_reif, int_lin_le_reif, bool_clause, array_bool_and, array_int_maximum, int_lin_ne_reif, array_int_minimum}
use Rattle.models.specs.Meaning.{meaning, on}
use Rattle.models.proofs.Arguments.{integer_arguments, boolean_arguments}
use Rattle.flatzinc.specs.System.{Solves, Carries}
use Rattle.flatsplitting.specs.Split.{Cut, cut, split_all}
use Rattle.flatzinc.proofs.Agreeing.{Typed}
use Rattle.flatsplitting.proofs.Splitting.{Cuts, splits}
use Rattle.flatsplitting.proofs.Cutting.{OfSum, sum_right}
use Rattle.flatsplitting.proofs.CuttingBest.{maximum_right, minimum_right}
use Rattle.flatsplitting.proofs.CuttingBooleans.{Bits, Boolean, OfBooleans, off-not_all, all_right, some_right}

-- ---- the builtins of one list

lin_eq : (c : ℤ) → OfSum (λ us. int_lin_eq us c)
unfolding meaning integer_arguments boolean_arguments
lin_eq c = record { by_sum = λ τ us ts e. rw e refl; integers = λ us. refl; booleans = λ us ts. refl }

lin_le : (c : ℤ) → OfSum (λ us. int_lin_le us c)
unfolding meaning integer_arguments boolean_arguments
lin_le c = record { by_sum = λ τ us ts e. rw e refl; integers = λ us. refl; booleans = λ us ts. refl }

lin_ne : (c : ℤ) → OfSum (λ us. int_lin_ne us c)
unfolding meaning integer_arguments boolean_arguments
lin_ne c = record { by_sum = λ τ us ts e. rw e refl; integers = λ us. refl; booleans = λ us ts. refl }

lin_eq_reif : (c : ℤ) (r : ℕ) → OfSum (λ us. int_lin_eq_reif us c r)
unfolding meaning integer_arguments boolean_arguments
lin_eq_reif c r = record { by_sum = λ τ us ts e. rw e refl; integers = λ us. refl; booleans = λ us ts. refl }

lin_le_reif : (c : ℤ) (r : ℕ) → OfSum (λ us. int_lin_le_reif us c r)
unfolding meaning integer_arguments boolean_arguments
lin_le_reif c r = record { by_sum = λ τ us ts e. rw e refl; integers = λ us. refl; booleans = λ us ts. refl }

lin_ne_reif : (c : ℤ) (r : ℕ) → OfSum (λ us. int_lin_ne_reif us c r)
unfolding meaning integer_arguments boolean_arguments
lin_ne_reif c r = record { by_sum = λ τ us ts e. rw e refl; integers = λ us. refl; booleans = λ us ts. refl }

conjunction : (r : ℕ) → OfBooleans (r ∷ []) (λ xs. array_bool_and xs r)
unfolding integer_arguments boolean_arguments
conjunction r = record { typed_as = λ Bs xs. (λ t. ((t.1.0, tt), t.1.1), λ t. (tt, (t.0.0, t.1))) }

positive : (ys : List ℕ) → OfBooleans ys (λ xs. bool_clause xs ys)
unfolding integer_arguments boolean_arguments
positive ys = record {
  typed_as = λ Bs xs. let a = all_append (Boolean Bs) xs ys in (λ t. ((a.0 t.1).1, (a.0 t.1).0), λ t. (tt, a.1 (t.1, t.0)));
}

negative : (xs : List ℕ) → OfBooleans xs (λ ys. bool_clause xs ys)
unfolding integer_arguments boolean_arguments
negative xs = record {
  typed_as = λ Bs ys. let a = all_append (Boolean Bs) xs ys in (λ t. a.0 t.1, λ t. (tt, a.1 t));
}

and_by : (r : ℕ) (τ : Valuation) (xs ys : List ℕ) → all (on τ) xs ≡ all (on τ) ys → meaning τ (array_bool_and xs r) ≡ meaning τ (array_bool_and ys r)
unfolding meaning
and_by r τ xs ys e = rw e refl

positive_by : (zs : List ℕ) (τ : Valuation) (xs ys : List ℕ) → any (on τ) xs ≡ any (on τ) ys → meaning τ (bool_clause xs zs) ≡ meaning τ (bool_clause ys zs)
unfolding meaning
positive_by zs τ xs ys e = rw e refl

negative_by : (zs : List ℕ) (τ : Valuation) (xs ys : List ℕ) → Bits τ xs → Bits τ ys → all (on τ) xs ≡ all (on τ) ys →
    meaning τ (bool_clause zs xs) ≡ meaning τ (bool_clause zs ys)
unfolding meaning
negative_by zs τ xs ys h k e = ap (λ b. any (on τ) zs || b) (off-not_all τ xs h ∙ ap not e ∙ sym (off-not_all τ ys k))

-- ---- the cut that was chosen

abbrev or_else : Cut → Option Cut → Cut
or_else d (Some x) = x
or_else d None = d

abbrev there : Option Cut → Bool
there (Some x) = true
there None = false

module _ (Bs : List Bounds) (b : Builtin) (c : Cut) where
  none : None ≡ Some c → Cuts Bs b c
  none e = false-true (ap there e)

  chosen : (t : Bool) (d : Cut) (o : Option Cut) → Cuts Bs b d → (o ≡ Some c → Cuts Bs b c) → (Some d if t else o) ≡ Some c → Cuts Bs b c
  chosen true d o p q e = subst (λ (x : Cut). Cuts Bs b x) (ap (or_else d) e) p
  chosen false d o p q e = q e

  chosen-where : (t : Bool) (d : Cut) → (t ≡ true → Cuts Bs b d) → (Some d if t else None) ≡ Some c → Cuts Bs b c
  chosen-where true d p e = subst (λ (x : Cut). Cuts Bs b x) (ap (or_else d) e) (p refl)
  chosen-where false d p e = none e

pub right : (Bs : List Bounds) (b : Builtin) (c : Cut) → Typed Bs b → cut Bs b ≡ Some c → Cuts Bs b c
unfolding cut
right Bs (int_lin_eq ts k) c t e =
    chosen Bs (int_lin_eq ts k) c (ltb Limit.list_length (length ts)) _ None (sum_right Bs 31 ts (λ us. int_lin_eq us k) (lin_eq k) t) (none Bs (int_lin_eq ts k) c) e
right Bs (int_lin_le ts k) c t e =
    chosen Bs (int_lin_le ts k) c (ltb Limit.list_length (length ts)) _ None (sum_right Bs 31 ts (λ us. int_lin_le us k) (lin_le k) t) (none Bs (int_lin_le ts k) c) e
right Bs (int_lin_ne ts k) c t e =
    chosen Bs (int_lin_ne ts k) c (ltb Limit.list_length (length ts)) _ None (sum_right Bs 31 ts (λ us. int_lin_ne us k) (lin_ne k) t) (none Bs (int_lin_ne ts k) c) e
right Bs (int_lin_eq_reif ts k r) c t e =
    chosen Bs (int_lin_eq_reif ts k r) c (ltb Limit.list_length (length ts)) _ None (sum_right Bs 31 ts (λ us. int_lin_eq_reif us k r) (lin_eq_reif k r) t) (none Bs (int_lin_eq_reif ts k r) c) e
right Bs (int_lin_le_reif ts k r) c t e =
    chosen Bs (int_lin_le_reif ts k r) c (ltb Limit.list_length (length ts)) _ None (sum_right Bs 31 ts (λ us. int_lin_le_reif us k r) (lin_le_reif k r) t) (none Bs (int_lin_le_reif ts k r) c) e
right Bs (int_lin_ne_reif ts k r) c t e =
    chosen Bs (int_lin_ne_reif ts k r) c (ltb Limit.list_length (length ts)) _ None (sum_right Bs 31 ts (λ us. int_lin_ne_reif us k r) (lin_ne_reif k r) t) (none Bs (int_lin_ne_reif ts k r) c) e
right Bs (array_bool_and xs r) c t e =
    chosen Bs (array_bool_and xs r) c (ltb Limit.list_length (length xs)) _ None
    (all_right Bs 32 xs (r ∷ []) (λ zs. array_bool_and zs r) (conjunction r) t (λ τ h k i. and_by r τ _ xs i)) (none Bs (array_bool_and xs r) c) e
right Bs (bool_clause xs ys) c t e =
    chosen Bs (bool_clause xs ys) c (ltb Limit.list_length (length xs)) _ _
    (some_right Bs 31 xs ys (λ zs. bool_clause zs ys) (positive ys) t (λ τ i. positive_by ys τ _ xs i))
    (chosen Bs (bool_clause xs ys) c (ltb Limit.list_length (length ys)) _ None
    (all_right Bs 32 ys xs (λ zs. bool_clause xs zs) (negative xs) t (λ τ h k i. negative_by xs τ _ ys h k i)) (none Bs (bool_clause xs ys) c)) e
right Bs (array_int_maximum m xs) c t e =
    chosen-where Bs (array_int_maximum m xs) c (ltb Limit.list_length (length xs)) _ (λ l. maximum_right Bs m xs l t) e
right Bs (array_int_minimum m xs) c t e =
    chosen-where Bs (array_int_minimum m xs) c (ltb Limit.list_length (length xs)) _ (λ l. minimum_right Bs m xs l t) e
right Bs b c t e = none Bs b c e

-- a system is carried over to its split one, by a value for each part and no other list of values
pub split_carries : (f : ℕ) (Bs : List Bounds) (bs : List Builtin) → All (Typed Bs) bs →
    let S = split_all f Bs bs in Carries (length S.bounds) (Solves (record { bounds = Bs; builtins = bs })) (Solves (record { bounds = Bs ++ S.bounds; builtins = S.builtins }))
split_carries f Bs bs t = splits right f Bs bs t
