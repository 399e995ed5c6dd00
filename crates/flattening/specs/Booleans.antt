-- Whether the atoms that stand where a Boolean is due are Boolean: those of the items without a code, and what a Boolean variable is equal to.
use Rattle.std.specs.Prelude.{Bool, true, false, ◌&&◌, List, ltb, length, get_or, Some, None}
use Rattle.std.specs.List.{list_all}
use Rattle.flatzinc.specs.declared.Atom.{Atom}
use Rattle.flatzinc.specs.declared.Atom.TheVariants.{Whole, Truth, Variable}
use Rattle.flatzinc.specs.declared.Domain.{Domain}
use Rattle.flatzinc.specs.declared.Domain.TheVariants.{Bools, Between, Among}
use Rattle.flatzinc.specs.declared.Declared.{Declared}
use Rattle.flatzinc.specs.declared.Item.{Item}
use Rattle.flatzinc.specs.declared.Item.TheVariants.{Coded, BoolEq, BoolLe, BoolLt, BoolUnequal, ArrayBoolOr, SetInRange}

abbrev pub is_bools : Domain → Bool
is_bools Bools = true
is_bools (Between lo hi) = false
is_bools (Among S) = false

abbrev pub boolean_atom : List Declared → Atom → Bool
boolean_atom ds (Whole n) = false
boolean_atom ds (Truth b) = true
boolean_atom ds (Variable v) = ltb v (length ds) && is_bools (get_or ds v (record { domain = Bools; given = None })).domain

abbrev pub boolean_item : List Declared → Item → Bool
boolean_item ds (Coded c vs) = true
boolean_item ds (BoolEq a b) = boolean_atom ds a && boolean_atom ds b
boolean_item ds (BoolLe a b) = boolean_atom ds a && boolean_atom ds b
boolean_item ds (BoolLt a b) = boolean_atom ds a && boolean_atom ds b
boolean_item ds (BoolUnequal a b) = boolean_atom ds a && boolean_atom ds b
boolean_item ds (ArrayBoolOr as₁ r) = list_all (boolean_atom ds) as₁.items && boolean_atom ds r
boolean_item ds (SetInRange x lo hi) = true

abbrev pub boolean_given : List Declared → Declared → Bool
boolean_given ds d = elim d.given [ None ↦ true | Some a ↦ elim (is_bools d.domain) [ true ↦ boolean_atom ds a | false ↦ true ] ]
