-- A long list cut until it is short: the parts that stand for its first elements, the builtins that define them, and what is left of the list.
use Rattle.std.specs.Prelude.{List, [], ◌∷◌, ◌++◌, map, ℕ, zero, suc, ltb, ℤ, length, take, drop}
use Rattle.integers.specs.Choice.{◌if◌else◌}
use Rattle.integers.specs.Number.{◌⊗◌, min_z, max_z, +0, +1, -1}
use Rattle.integers.specs.Bounds.{◌to◌, bit, bounds_in}
use Rattle.integers.specs.Terms.{Term, ◌·◌}
use Rattle.integers.specs.declared.Bounds.{Bounds}
use Rattle.words.specs.Limit as Limit
use Rattle.models.specs.Builtin.{Builtin, int_lin_eq, bool_clause, array_bool_and, array_int_maximum, array_int_minimum}
use Rattle.rules.specs.Parts.{extreme}
use Rattle.flatsplitting.specs.Split.{best_by}
use Rattle.flatsplitting.specs.declared.Reading.{Reading}
use Rattle.flatsplitting.specs.declared.Reading.TheVariants as r

-- how many elements a part stands for, its bounds, the builtins that define it by its number, and the element that names it
pub record Cutting (A : Type 0) : Type 0 where
  pub at : ℕ
  pub part : List Bounds → List A → Bounds
  pub defining : ℕ → List A → List Builtin
  pub named : ℕ → A

pub record Pieces (A : Type 0) : Type 0 where
  pub bounds : List Bounds
  pub builtins : List Builtin
  pub rest : List A

-- cut at most so often
unfoldable pub pieces : {A : Type 0} → Cutting A → ℕ → List Bounds → List A → Pieces A
pieces C zero Bs xs = record { bounds = []; builtins = []; rest = xs }
pieces C (suc f) Bs xs =
    let first = take C.at xs in
    let B = C.part Bs first in
    let p = pieces C f (Bs ++ B ∷ []) (drop C.at xs ++ C.named (length Bs) ∷ []) in
    record { bounds = B ∷ p.bounds; builtins = C.defining (length Bs) first ++ p.builtins; rest = p.rest } if ltb Limit.list_length (length xs)
    else record { bounds = []; builtins = []; rest = xs }

-- cut as often as it needs
abbrev pub cut_up : {A : Type 0} → Cutting A → List Bounds → List A → Pieces A
cut_up C Bs xs = pieces C (length xs) Bs xs

-- ---- the bounds of a sum and of the best of a list

abbrev pub sum_ends : List Bounds → List (Term ℕ) → Bounds
sum_ends Bs ts = extreme min_z (bounds_in Bs) ts to extreme max_z (bounds_in Bs) ts

abbrev pub best_ends : (ℤ → ℤ → ℤ) → List Bounds → List ℕ → Bounds
best_ends pick Bs xs = best_by pick (λ v. (bounds_in Bs v).lower) xs to best_by pick (λ v. (bounds_in Bs v).upper) xs

-- of one product
abbrev pub product_ends : ℤ → Bounds → Bounds
product_ends n B = min_z (n ⊗ B.lower) (n ⊗ B.upper) to max_z (n ⊗ B.lower) (n ⊗ B.upper)

-- ---- a sum, and lists that are read by whether all are 1, by whether one is, by their largest and by their least

abbrev pub of_sum : Cutting (Term ℕ)
of_sum = record {
  at = 31;
  part = sum_ends;
  defining = λ n ts. int_lin_eq (ts ++ (-1 · n) ∷ []) +0 ∷ [];
  named = λ n. +1 · n;
}

abbrev pub of_all : Cutting ℕ
of_all = record { at = 32; part = λ Bs xs. bit; defining = λ n xs. array_bool_and xs n ∷ []; named = λ n. n }

abbrev pub of_some : Cutting ℕ
of_some = record {
  at = 31;
  part = λ Bs xs. bit;
  defining = λ n xs. bool_clause xs (n ∷ []) ∷ map (λ x. bool_clause (n ∷ []) (x ∷ [])) xs;
  named = λ n. n;
}

abbrev pub of_best : (ℤ → ℤ → ℤ) → (ℕ → List ℕ → Builtin) → Cutting ℕ
of_best pick make = record {
  at = 32;
  part = best_ends pick;
  defining = λ n xs. make n xs ∷ [];
  named = λ n. n;
}

abbrev pub of_list : Reading → Cutting ℕ
of_list r.All = of_all
of_list r.Any = of_some
of_list r.Largest = of_best max_z array_int_maximum
of_list r.Least = of_best min_z array_int_minimum
