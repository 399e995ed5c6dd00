-- The item of a constraint's name and arguments.
use Rattle.std.specs.Prelude.{true, List, [], ◌∷◌, map, ℕ, zero, suc, take, drop, get_or, Option, Some, None}
use Rattle.std.specs.Str.{bytes_eq}
use Rattle.words.specs.Bytes.{bytes}
use Rattle.integers.specs.Choice.{◌if◌else◌}
use Rattle.models.specs.Builtin as B
use Rattle.models.specs.Table.{codes, takes, integer}
use Rattle.names.specs.Name.{look_up, builtin_names}
use Rattle.flatzinc.specs.declared.Atom.{Atom}
use Rattle.flatzinc.specs.declared.Atom.TheVariants.{Truth}
use Rattle.flatzinc.specs.Items.{Value, one, many, range, Item, coded, bool_eq, bool_le, bool_lt, bool_unequal, array_bool_or, set_in_range}

-- the library's rows_NAME stands for the builtin NAME
unfoldable pub unprefixed : List ℕ → List ℕ
unprefixed n = drop 5 n if bytes_eq (take 5 n) (bytes "rows_") else n

abbrev pub of_two : (Atom → Atom → Item) → List Value → Option Item
of_two f (one a ∷ one b ∷ []) = Some (f a b)
of_two f vs = None

abbrev pub disjunction : List Value → Option Item
disjunction (many as₁ ∷ one r ∷ []) = Some (array_bool_or as₁ r)
disjunction vs = None

-- the builtin with a number, counted from 1
abbrev pub numbered : ℕ → List Value → Option Item
numbered zero vs = None
numbered (suc k) vs = Some (coded (get_or codes k (takes "int_eq" (integer ∷ integer ∷ []) B.int_eq)) vs)

abbrev pub by_code : List ℕ → List Value → Option Item
by_code n vs = numbered (look_up n 0 (map bytes builtin_names)) vs

-- bool_xor of two, or of three of which the last is true
abbrev pub exclusive : List ℕ → List Value → Option Item
exclusive n (one a ∷ one b ∷ []) = Some (bool_unequal a b)
exclusive n (one a ∷ one b ∷ one (Truth true) ∷ []) = Some (bool_unequal a b)
exclusive n vs = by_code n vs

-- set_in of a range
abbrev pub membership : List ℕ → List Value → Option Item
membership n (one a ∷ range lo hi ∷ []) = Some (set_in_range a lo hi)
membership n vs = by_code n vs

unfoldable pub named : List ℕ → List Value → Option Item
named n vs =
    of_two bool_eq vs if bytes_eq n (bytes "bool_eq")
    else of_two bool_le vs if bytes_eq n (bytes "bool_le")
    else of_two bool_lt vs if bytes_eq n (bytes "bool_lt")
    else disjunction vs if bytes_eq n (bytes "array_bool_or")
    else exclusive n vs if bytes_eq n (bytes "bool_xor")
    else membership n vs if bytes_eq n (bytes "set_in")
    else by_code n vs

abbrev pub item_of : List ℕ → List Value → Option Item
item_of n vs = named (unprefixed n) vs
