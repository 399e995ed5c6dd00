-- A law of all codes from one of each row of the table: for proofs by code.
use Rattle.std.proofs.Common.{◌≡◌, ap, List, [], ◌∷◌, map, ℕ, zero, suc, ◌≤◌, ◌<◌, arith, length, get_or, drop}
use Rattle.integers.proofs.Tests.{All}
use Rattle.models.specs.Table.{Code, codes, last}
use Rattle.models.specs.Shape.{shape_of, shapes}
use Rattle.models.specs.Builtin.{Builtin, int_eq}
use Rattle.models.specs.Model.{given, builtins}

-- the shapes of a row's arguments, and its builtin by the words after the head
abbrev pub shapes_of : Code → List ℕ
shapes_of c = map shape_of c.sorts

abbrev pub make_of : Code → List ℕ → Builtin
make_of c ws = given ws 0 c.sorts c.make

-- two functions that give the same list agree on each of its elements; that they give the same list is a single equation, which antt computes
pub all_same : {A B : Type 0} (f g : A → B) (xs : List A) → map f xs ≡ map g xs → All (λ x. f x ≡ g x) xs
all_same f g [] e = tt
all_same f g (x ∷ xs) e = (ap (λ ys. get_or ys 0 (f x)) e, all_same f g xs (ap (drop 1) e))

module _ (P : List ℕ → (List ℕ → Builtin) → Type 0) where
  row_at : (cs : List Code) → All (λ c. P (shapes_of c) (make_of c)) cs → (n : ℕ) → n < length cs →
      P (get_or (map shapes_of cs) n []) (get_or (map make_of cs) n (λ ws. int_eq 0 0))
  row_at [] h n l = absurd (omega arith)
  row_at (c ∷ cs) h zero l = h.0
  row_at (c ∷ cs) h (suc n) l = row_at cs h.1 n (omega arith)

  pub by_code : All (λ c. P (shapes_of c) (make_of c)) codes → (code : ℕ) → 1 ≤ code → code ≤ last →
      P (get_or shapes code []) (get_or builtins code (λ ws. int_eq 0 0))
  unfolding shapes builtins
  by_code rows zero l h = absurd (omega arith)
  by_code rows (suc n) l h = row_at codes rows n (omega arith)
