-- Which lists of a call are cut, and what stands at a place of its arguments.
use Rattle.std.specs.Prelude.{◌≡◌, List, [], ◌∷◌, ◌++◌, map, ℕ, get_or, slice_set, Vec, Option, Some, None}
use Rattle.std.specs.declared.alloc.Global.{Global}
use Rattle.integers.specs.Number.{+0}
use Rattle.integers.specs.Terms.{Term}
use Rattle.models.specs.Builtin.{Builtin}
use Rattle.models.specs.declared.code.Code.{Code}
use Rattle.models.specs.declared.code.Code.TheVariants as c
use Rattle.flatzinc.specs.declared.Atom.{Atom}
use Rattle.flatzinc.specs.declared.Product.{Product}
use Rattle.flatzinc.specs.declared.Argument.{Argument}
use Rattle.flatzinc.specs.declared.Argument.TheVariants.{One, Number, Numbers, Many, Sum}
use Rattle.flatzinc.specs.Calls.{numbers_of, terms_of}
use Rattle.flatsplitting.specs.declared.Lists.{Lists}
use Rattle.flatsplitting.specs.declared.Lists.TheVariants as l
use Rattle.flatsplitting.specs.declared.Reading.TheVariants as r
use Rattle.flatsplitting.specs.declared.Parted.{Parted}
use Rattle.flatsplitting.specs.Split.{split, cut_size}
use Rattle.flatsplitting.specs.Added.{built, built_of, bounds, Adds}
use Rattle.flatsplitting.specs.Pieces.{Cutting, cut_up, of_sum}

abbrev pub lists_of : Code → Lists
lists_of c.IntLinEq = l.OfSum
lists_of c.IntLinLe = l.OfSum
lists_of c.IntLinNe = l.OfSum
lists_of c.IntLinEqReif = l.OfSum
lists_of c.IntLinLeReif = l.OfSum
lists_of c.IntLinNeReif = l.OfSum
lists_of c.ArrayBoolAnd = l.First r.All
lists_of c.BoolClause = l.OfClause
lists_of c.ArrayIntMaximum = l.Second r.Largest
lists_of c.ArrayIntMinimum = l.Second r.Least
lists_of k = l.Nowhere

abbrev pub listed : Argument → Option (List ℕ)
listed (One a) = None
listed (Number n) = None
listed (Numbers ns) = None
listed (Many as₁) = numbers_of as₁.items
listed (Sum ps) = None

abbrev pub summed : Argument → Option (List (Term ℕ))
summed (One a) = None
summed (Number n) = None
summed (Numbers ns) = None
summed (Many as₁) = None
summed (Sum ps) = terms_of ps.items

abbrev pub list_at : List Argument → ℕ → Option (List ℕ)
list_at gs at = listed (get_or gs at (Number +0))

abbrev pub terms_at : List Argument → ℕ → Option (List (Term ℕ))
terms_at gs at = summed (get_or gs at (Number +0))

-- the list at a place was cut: another one stands there, and the rest was added
pub record CutListAt (C : Cutting ℕ) (old new : Parted) (gs hs : List Argument) (at : ℕ) (xs : List ℕ) : Type 0 where
  pub list : Vec Atom Global
  pub put : hs ≡ slice_set gs at (Many list)
  pub rest : numbers_of list.items ≡ Some (cut_up C (bounds old) xs).rest
  pub adds : Adds old new (cut_up C (bounds old) xs).bounds (map Some (cut_up C (bounds old) xs).builtins)

pub record CutSumAt (old new : Parted) (gs hs : List Argument) (ts : List (Term ℕ)) : Type 0 where
  pub list : Vec Product Global
  pub put : hs ≡ slice_set gs 0 (Sum list)
  pub rest : terms_of list.items ≡ Some (cut_up of_sum (bounds old) ts).rest
  pub adds : Adds old new (cut_up of_sum (bounds old) ts).bounds (map Some (cut_up of_sum (bounds old) ts).builtins)

-- what was added, and what the arguments are now: together what a builtin is cut into
pub record CutCall (old new : Parted) (k : Code) (gs : List Argument) (b : Builtin) : Type 0 where
  pub parts : bounds new ≡ bounds old ++ (split (cut_size b) (bounds old) b).bounds
  pub calls : built new.calls.items ++ built_of k gs ∷ [] ≡ built old.calls.items ++ map Some (split (cut_size b) (bounds old) b).builtins
