-- The call of the shorter builtin: of a sum of two by 1 and −1, its two variables, that by 1 first.
use Rattle.std.specs.Prelude.{◌≡◌, ◌&&◌, List, [], ◌∷◌, map, ℤ, Option, Some, None, option_and_then}
use Rattle.integers.specs.Choice.{◌if◌else◌}
use Rattle.integers.specs.Number.{◌≟◌, +0, +1, -1}
use Rattle.models.specs.declared.code.Code.{Code}
use Rattle.models.specs.declared.code.Code.TheVariants.{IntEq, IntNe, IntLe, IntLt, IntLeReif, IntLtReif, IntLinEq, IntLinNe, IntLinLe, IntLinLeReif}
use Rattle.flatzinc.specs.declared.Atom.{Atom}
use Rattle.flatzinc.specs.declared.Product.{Product}
use Rattle.flatzinc.specs.declared.Call.{Call}
use Rattle.flatrewriting.specs.Arguments.{Given, atom, whole, products, given}

unfoldable pub short_code : Code → ℤ → Option Code
short_code IntLinEq n = Some IntEq if n ≟ +0 else None
short_code IntLinNe n = Some IntNe if n ≟ +0 else None
short_code IntLinLe n = Some IntLe if n ≟ +0 else Some IntLt if n ≟ -1 else None
short_code IntLinLeReif n = Some IntLeReif if n ≟ +0 else Some IntLtReif if n ≟ -1 else None
short_code c n = None

unfoldable pub pair_in : List Product → Option (Atom × Atom)
pair_in (s ∷ t ∷ []) =
    Some (s.atom, t.atom) if (s.coefficient ≟ +1) && (t.coefficient ≟ -1)
    else Some (t.atom, s.atom) if (s.coefficient ≟ -1) && (t.coefficient ≟ +1)
    else None
pair_in ps = None

unfoldable pub pair_at : Given → Option (Atom × Atom)
pair_at (products ps) = pair_in ps
pair_at g = None

unfoldable pub constant_at : Given → Option ℤ
constant_at (whole n) = Some n
constant_at g = None

unfoldable pub atom_at : Given → Option Atom
atom_at (atom a) = Some a
atom_at g = None

-- a call of these arguments
pub record Made : Type 0 where
  pub code : Code
  pub arguments : List Given

abbrev pub short_by : Code → Given → Given → List Given → Option Made
short_by c g h rest =
    option_and_then (λ n. option_and_then (λ d. option_and_then (λ p. Some (record { code = d; arguments = atom p.0 ∷ atom p.1 ∷ rest })) (pair_at g)) (short_code c n)) (constant_at h)

abbrev pub short_third : Code → Given → Given → Given → Option Made
short_third c g h k = option_and_then (λ r. short_by c g h (atom r ∷ [])) (atom_at k)

unfoldable pub short : Code → List Given → Option Made
short c [] = None
short c (g ∷ []) = None
short c (g ∷ h ∷ []) = short_by c g h []
short c (g ∷ h ∷ k ∷ []) = short_third c g h k
short c (g ∷ h ∷ k ∷ l ∷ gs) = None

-- the code's call, where there is one
abbrev pub IsShort : Option Made → Option Call → Type 0
IsShort o None = o ≡ None
IsShort o (Some d) = o ≡ Some (record { code = d.code; arguments = map given d.arguments.items })
