-- The statements of a FlatZinc text, and what the code's statements stand for.
use Rattle.std.specs.Prelude.{Bool, List, map, ℕ, ℤ, Option, option_map}
use Rattle.flattokens.specs.Token.{Token, token}
use Rattle.flatstatements.specs.declared.Literal.{Literal as Literal'}
use Rattle.flatstatements.specs.declared.Literal.TheVariants as l
use Rattle.flatstatements.specs.declared.Element.{Element as Element'}
use Rattle.flatstatements.specs.declared.Element.TheVariants as e
use Rattle.flatstatements.specs.declared.Expression.{Expression as Expression'}
use Rattle.flatstatements.specs.declared.Expression.TheVariants as x
use Rattle.flatstatements.specs.declared.Range.{Range as Range'}
use Rattle.flatstatements.specs.declared.Range.TheVariants as r
use Rattle.flatstatements.specs.declared.Goal.{Goal as Goal'}
use Rattle.flatstatements.specs.declared.Goal.TheVariants as g
use Rattle.flatstatements.specs.declared.Statement.{Statement as Statement'}
use Rattle.flatstatements.specs.declared.Statement.TheVariants as s

pub data Literal : Type 0 where
  number : (n : ℤ) → Literal
  truth : (b : Bool) → Literal
  name float : (bytes : List ℕ) → Literal

pub data Element : Type 0 where
  literal : (l : Literal) → Element
  members : (S : List ℤ) → Element
  range : (lo hi : ℤ) → Element

pub data Expression : Type 0 where
  one : (e : Element) → Expression
  many : (es : List Element) → Expression

pub data Range : Type 0 where
  bools : Range
  between : (lo hi : ℤ) → Range
  among : (S : List ℤ) → Range

pub data Goal : Type 0 where
  satisfy : Goal
  minimize maximize : (l : Literal) → Goal

pub data Statement : Type 0 where
  predicate : (tokens : List Token) → Statement
  parameter : (kind : List Token) (name : List ℕ) (notes : List Token) (value : Expression) → Statement
  variable : (domain : Range) (name : List ℕ) (notes : List Token) (given : Option Literal) → Statement
  constraint : (builtin : List ℕ) (arguments : List Expression) (notes : List Token) → Statement
  solve : (notes : List Token) (goal : Goal) → Statement

-- ---- what the code's statements stand for

abbrev pub literal_of : Literal' → Literal
literal_of (l.Number n) = number n
literal_of (l.Truth b) = truth b
literal_of (l.Name bs) = name bs.now
literal_of (l.Float bs) = float bs.now

abbrev pub element_of : Element' → Element
element_of (e.Literal a) = literal (literal_of a)
element_of (e.Members S) = members S.items
element_of (e.Range lo hi) = range lo hi

abbrev pub expression_of : Expression' → Expression
expression_of (x.One a) = one (element_of a)
expression_of (x.Many as₁) = many (map element_of as₁.items)

abbrev pub range_of : Range' → Range
range_of r.Bool = bools
range_of (r.Between lo hi) = between lo hi
range_of (r.Members S) = among S.items

abbrev pub goal_of : Goal' → Goal
goal_of g.Satisfy = satisfy
goal_of (g.Minimize a) = minimize (literal_of a)
goal_of (g.Maximize a) = maximize (literal_of a)

abbrev pub statement_of : Statement' → Statement
statement_of (s.Predicate ts) = predicate (map token ts.items)
statement_of (s.Parameter ks n ts v) = parameter (map token ks.items) n.now (map token ts.items) (expression_of v)
statement_of (s.Variable d n ts o) = variable (range_of d) n.now (map token ts.items) (option_map literal_of o)
statement_of (s.Constraint n vs ts) = constraint n.now (map expression_of vs.items) (map token ts.items)
statement_of (s.Solve ts a) = solve (map token ts.items) (goal_of a)
