-- The tests of what fits, over calls as they have their arguments.
use Rattle.std.specs.Prelude.{Bool, true, false, ◌&&◌, ◌||◌, pos, ltb, leb, length}
use Rattle.std.specs.List.{list_all}
use Rattle.std.specs.Int.Signed.{le_z}
use Rattle.integers.specs.Choice.{◌if◌else◌}
use Rattle.words.specs.Word.{in_range}
use Rattle.models.specs.declared.code.Code.{Code}
use Rattle.models.specs.declared.code.Code.TheVariants as c
use Rattle.flatzinc.specs.declared.Atom.{Atom}
use Rattle.flatzinc.specs.declared.Product.{Product}
use Rattle.flatzinc.specs.declared.Argument.{Argument}
use Rattle.flatzinc.specs.declared.Argument.TheVariants.{One, Number, Numbers, Many, Sum}
use Rattle.flatzinc.specs.declared.Call.{Call}
use Rattle.flatzinc.specs.declared.ModelVariable.{ModelVariable}
use Rattle.flatzinc.specs.Numbers.{number_of}

abbrev pub atom_fits : Atom → Bool
atom_fits a = ltb (number_of a) 268435456

abbrev pub product_fits : Product → Bool
product_fits p = in_range p.coefficient && atom_fits p.atom

-- of a power, whose number is the exponent, and of other builtins
abbrev pub argument_fits : Bool → Argument → Bool
argument_fits power (One a) = atom_fits a
argument_fits power (Number n) = le_z n (pos 27) if power else in_range n
argument_fits power (Numbers ns) = leb (length ns.items) 32 && list_all in_range ns.items
argument_fits power (Many as₁) = leb (length as₁.items) 32 && list_all atom_fits as₁.items
argument_fits power (Sum ps) = leb (length ps.items) 32 && list_all product_fits ps.items

abbrev pub is_power : Code → Bool
is_power c.IntPow = true
is_power k = false

abbrev pub call_fits : Call → Bool
call_fits k = list_all (argument_fits (is_power k.code)) k.arguments.items

abbrev pub variable_fits : ModelVariable → Bool
variable_fits v = v.is_boolean || (in_range v.bounds.lower && in_range v.bounds.upper)
