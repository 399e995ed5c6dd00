-- What the code's types stand for: its values, domains, variables and items as those of the tree.
use Rattle.std.specs.Prelude.{map, ◌-◌, get_or}
use Rattle.models.specs.Table.{Code, codes, takes}
use Rattle.models.specs.Builtin as B
use Rattle.models.specs.Table.{integer}
use Rattle.std.specs.Prelude.{[], ◌∷◌}
use Rattle.models.specs.declared.code.Code.{Code as CodeOf}
use Rattle.models.specs.Codes.{code_number}
use Rattle.flatzinc.specs.Items as i
use Rattle.flatzinc.specs.declared.Value.{Value}
use Rattle.flatzinc.specs.declared.Value.TheVariants.{One, Many, Members, Range}
use Rattle.flatzinc.specs.declared.Domain.{Domain}
use Rattle.flatzinc.specs.declared.Domain.TheVariants.{Bools, Between, Among}
use Rattle.flatzinc.specs.declared.Declared.{Declared}
use Rattle.flatzinc.specs.declared.FlatZinc.{FlatZinc}
use Rattle.flatzinc.specs.declared.Item.{Item}
use Rattle.flatzinc.specs.declared.Item.TheVariants.{Coded, BoolEq, BoolLe, BoolLt, BoolUnequal, ArrayBoolOr, SetInRange}

-- the row of a code in the table of builtins
abbrev pub row : CodeOf → Code
row c = get_or codes (code_number c - 1) (takes "int_eq" (integer ∷ integer ∷ []) B.int_eq)

abbrev pub value : Value → i.Value
value (One a) = i.one a
value (Many as₁) = i.many as₁.items
value (Members S) = i.members S.items
value (Range lo hi) = i.range lo hi

abbrev pub domain : Domain → i.Domain
domain Bools = i.bools
domain (Between lo hi) = i.between lo hi
domain (Among S) = i.among S.items

abbrev pub declared : Declared → i.Declared
declared d = record { domain = domain d.domain; given = d.given }

abbrev pub item : Item → i.Item
item (Coded c vs) = i.coded (row c) (map value vs.items)
item (BoolEq a b) = i.bool_eq a b
item (BoolLe a b) = i.bool_le a b
item (BoolLt a b) = i.bool_lt a b
item (BoolUnequal a b) = i.bool_unequal a b
item (ArrayBoolOr as₁ r) = i.array_bool_or as₁.items r
item (SetInRange x lo hi) = i.set_in_range x lo hi

abbrev pub flatzinc : FlatZinc → i.FlatZinc
flatzinc F = record { variables = map declared F.variables.items; constraints = map item F.constraints.items }
