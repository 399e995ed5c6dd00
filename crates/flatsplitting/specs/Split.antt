-- Lists longer than a model's words allow, cut by parts: a part is a further variable that stands for the first of the elements, defined by builtins of its own.
use Rattle.std.specs.Prelude.{List, [], ◌∷◌, ◌++◌, map, ℕ, zero, suc, ◌+◌, ltb, ℤ, length, take, drop, Option, Some, None}
use Rattle.integers.specs.Choice.{◌if◌else◌}
use Rattle.integers.specs.Number.{min_z, max_z, +0, +1, -1}
use Rattle.integers.specs.Bounds.{◌to◌, bit, bounds_in}
use Rattle.integers.specs.Terms.{Term, ◌·◌}
use Rattle.integers.specs.declared.Bounds.{Bounds}
use Rattle.words.specs.Limit as Limit
use Rattle.models.specs.Builtin.{Builtin, int_lin_eq, int_lin_le, int_lin_ne, int_lin_eq_reif, int_lin_le_reif, int_lin_ne_reif, bool_clause, array_bool_and, array_int_maximum, array_int_minimum}
use Rattle.rules.specs.Parts.{extreme}
use Rattle.flatzinc.specs.System.{System}

-- the bounds of a part, the builtins that define it, and what is left of the builtin that was cut
pub record Cut : Type 0 where
  pub part : Bounds
  pub defining : List Builtin
  pub rest : Builtin

-- ---- one cut, at so many elements; the part is the variable after those with these bounds
module _ (Bs : List Bounds) (at : ℕ) where
  abbrev pub part_number : ℕ
  part_number = length Bs

  -- the first terms' sum; the other terms and the part
  unfoldable pub cut_sum : List (Term ℕ) → (List (Term ℕ) → Builtin) → Cut
  cut_sum ts make = record {
    part = extreme min_z (bounds_in Bs) (take at ts) to extreme max_z (bounds_in Bs) (take at ts);
    defining = int_lin_eq (take at ts ++ (-1 · part_number) ∷ []) +0 ∷ [];
    rest = make (drop at ts ++ (+1 · part_number) ∷ []);
  }

  -- whether the first of them are all 1
  unfoldable pub cut_all : List ℕ → (List ℕ → Builtin) → Cut
  cut_all xs make = record {
    part = bit;
    defining = array_bool_and (take at xs) part_number ∷ [];
    rest = make (drop at xs ++ part_number ∷ []);
  }

  -- whether one of the first is 1: "some of them, or not the part", "the part, or not this one"
  unfoldable pub cut_some : List ℕ → (List ℕ → Builtin) → Cut
  cut_some xs make = record {
    part = bit;
    defining = bool_clause (take at xs) (part_number ∷ []) ∷ map (λ x. bool_clause (part_number ∷ []) (x ∷ [])) (take at xs);
    rest = make (drop at xs ++ part_number ∷ []);
  }

-- the best of values, of which `pick` is the better of two
unfoldable pub best_by : (ℤ → ℤ → ℤ) → (ℕ → ℤ) → List ℕ → ℤ
best_by pick f [] = +0
best_by pick f (x ∷ []) = f x
best_by pick f (x ∷ y ∷ ys) = pick (f x) (best_by pick f (y ∷ ys))

-- the best of the first
unfoldable pub cut_best : List Bounds → ℕ → (ℤ → ℤ → ℤ) → (ℕ → List ℕ → Builtin) → ℕ → List ℕ → Cut
cut_best Bs at pick make m xs = record {
  part = best_by pick (λ v. (bounds_in Bs v).lower) (take at xs) to best_by pick (λ v. (bounds_in Bs v).upper) (take at xs);
  defining = make (length Bs) (take at xs) ∷ [];
  rest = make m (drop at xs ++ length Bs ∷ []);
}

-- ---- the first cut that a builtin needs
unfoldable pub cut : List Bounds → Builtin → Option Cut
cut Bs (int_lin_eq ts c) = Some (cut_sum Bs 31 ts (λ us. int_lin_eq us c)) if ltb Limit.list_length (length ts) else None
cut Bs (int_lin_le ts c) = Some (cut_sum Bs 31 ts (λ us. int_lin_le us c)) if ltb Limit.list_length (length ts) else None
cut Bs (int_lin_ne ts c) = Some (cut_sum Bs 31 ts (λ us. int_lin_ne us c)) if ltb Limit.list_length (length ts) else None
cut Bs (int_lin_eq_reif ts c r) = Some (cut_sum Bs 31 ts (λ us. int_lin_eq_reif us c r)) if ltb Limit.list_length (length ts) else None
cut Bs (int_lin_le_reif ts c r) = Some (cut_sum Bs 31 ts (λ us. int_lin_le_reif us c r)) if ltb Limit.list_length (length ts) else None
cut Bs (int_lin_ne_reif ts c r) = Some (cut_sum Bs 31 ts (λ us. int_lin_ne_reif us c r)) if ltb Limit.list_length (length ts) else None
cut Bs (array_bool_and xs r) = Some (cut_all Bs 32 xs (λ zs. array_bool_and zs r)) if ltb Limit.list_length (length xs) else None
cut Bs (bool_clause xs ys) =
    Some (cut_some Bs 31 xs (λ zs. bool_clause zs ys)) if ltb Limit.list_length (length xs)
    else Some (cut_all Bs 32 ys (λ zs. bool_clause xs zs)) if ltb Limit.list_length (length ys)
    else None
cut Bs (array_int_maximum m xs) = Some (cut_best Bs 32 max_z array_int_maximum m xs) if ltb Limit.list_length (length xs) else None
cut Bs (array_int_minimum m xs) = Some (cut_best Bs 32 min_z array_int_minimum m xs) if ltb Limit.list_length (length xs) else None
cut Bs b = None

-- ---- cut by cut, at most so often
unfoldable pub with_cut : (List Bounds → Builtin → System) → List Bounds → Builtin → Option Cut → System
with_cut go Bs b None = record { bounds = []; builtins = b ∷ [] }
with_cut go Bs b (Some c) = let r = go (Bs ++ c.part ∷ []) c.rest in record { bounds = c.part ∷ r.bounds; builtins = c.defining ++ r.builtins }

unfoldable pub split : ℕ → List Bounds → Builtin → System
split zero Bs b = record { bounds = []; builtins = b ∷ [] }
split (suc f) Bs b = with_cut (split f) Bs b (cut Bs b)

-- the parts of all builtins, in order, and the builtins; each is cut at most so often
unfoldable pub split_all : ℕ → List Bounds → List Builtin → System
split_all f Bs [] = record { bounds = []; builtins = [] }
split_all f Bs (b ∷ bs) =
    let s = split f Bs b in
    let r = split_all f (Bs ++ s.bounds) bs in
    record { bounds = s.bounds ++ r.bounds; builtins = s.builtins ++ r.builtins }

-- how many elements stand in lists that are cut, in a builtin and in all; as often it is cut at most
abbrev pub cut_size : Builtin → ℕ
cut_size (int_lin_eq ts c) = length ts
cut_size (int_lin_le ts c) = length ts
cut_size (int_lin_ne ts c) = length ts
cut_size (int_lin_eq_reif ts c r) = length ts
cut_size (int_lin_le_reif ts c r) = length ts
cut_size (int_lin_ne_reif ts c r) = length ts
cut_size (array_bool_and xs r) = length xs
cut_size (bool_clause xs ys) = length xs + length ys
cut_size (array_int_maximum m xs) = length xs
cut_size (array_int_minimum m xs) = length xs
cut_size b = 0

unfoldable pub enough : List Builtin → ℕ
enough [] = 0
enough (b ∷ bs) = cut_size b + enough bs
