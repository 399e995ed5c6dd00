-- 02, wish 13: the products of int_pow(x,k,z), "follow 000, 3.1.25, halving the exponent until it is 1", and their values.
use Rattle.std.specs.Prelude.{List, [], ◌∷◌, ◌++◌, ℕ, zero, suc, ◌/◌, ◌%◌, leb, eqb, ℤ, length}
use Rattle.integers.specs.Choice.{◌if◌else◌}
use Rattle.integers.specs.Number.{◌⊗◌}
use Rattle.integers.specs.declared.Bounds.{Bounds}
use Rattle.rowsystems.specs.Row.{Row, product}
use Rattle.rules.specs.Block.{Ref, source, aux}
use Rattle.rules.specs.Parts.{end_products}

-- "halving the exponent until it is 1: an even power is its half power squared; an odd one is that square, then x times it": by recursion on
-- a number of steps, since the exponent halves; with as many steps as the exponent it is 1 before they end
module _ {A : Type 0} (itself : A) (square times : A → A) where
  unfoldable pub by_halves : ℕ → ℕ → A
  by_halves zero k = itself
  by_halves (suc steps) k =
      let s = square (by_halves steps (k / 2)) in
      itself if leb k 1
      else s if eqb (k % 2) 0
      else times s

-- ---- the products

-- the auxiliaries and products so far, the variable that holds the power, and its bounds
pub record Chain : Type 0 where
  pub auxiliaries : List Bounds
  pub products : List (Row Ref)
  pub result : Ref
  pub range : Bounds

-- "Each product gets an auxiliary, bounded as in code 7": a factor within bounds times the power so far
unfoldable pub next : Chain → Ref → Bounds → Chain
next c factor B =
    record {
      auxiliaries = c.auxiliaries ++ (end_products B c.range ∷ []);
      products = c.products ++ (product (aux (length c.auxiliaries)) factor c.result ∷ []);
      result = aux (length c.auxiliaries);
      range = end_products B c.range;
    }

-- a variable within bounds, its power squared, and times it
module _ (B : Bounds) (x : ℕ) where
  unfoldable pub no_product : Chain
  no_product = record { auxiliaries = []; products = []; result = source x; range = B }

  unfoldable pub squared : Chain → Chain
  squared c = next c c.result c.range

  unfoldable pub multiplied : Chain → Chain
  multiplied c = next c (source x) B

  -- the chain of products of a power from 1 on
  unfoldable pub chain : ℕ → Chain
  chain k = by_halves no_product squared multiplied k k

-- ---- their values

-- the values of the products so far, and the power
pub record Values : Type 0 where
  pub picked : List ℤ
  pub held : ℤ

unfoldable pub next_value : Values → ℤ → Values
next_value v factor = record { picked = v.picked ++ ((factor ⊗ v.held) ∷ []); held = factor ⊗ v.held }

module _ (x : ℤ) where
  unfoldable pub no_value : Values
  no_value = record { picked = []; held = x }

  unfoldable pub squared_value : Values → Values
  squared_value v = next_value v v.held

  unfoldable pub multiplied_value : Values → Values
  multiplied_value v = next_value v x

  unfoldable pub power_values : ℕ → Values
  power_values k = by_halves no_value squared_value multiplied_value k k
