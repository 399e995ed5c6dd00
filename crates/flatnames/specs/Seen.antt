-- What the code's state stands for.
use Rattle.std.specs.Prelude.{List, map, ℕ, option_map}
use Rattle.std.specs.Borrow.{Bor}
use Rattle.std.specs.BTreeMap.{BTreeMap, get_by}
use Rattle.std.specs.Ordering.{nat_cmp}
use Rattle.std.specs.Cmp.Lexicographic.{slice_cmp}
use Rattle.flatzinc.specs.Seen.{value, declared, item}
use Rattle.flatnames.specs.Scope.{Known, variable, parameter, other, Scope}
use Rattle.flatnames.specs.Step.{Aim, satisfy, minimize, maximize, State}
use Rattle.flatnames.specs.declared.state.Known.{Known as Known'}
use Rattle.flatnames.specs.declared.state.Known.TheVariants as k
use Rattle.flatnames.specs.declared.state.Aim.{Aim as Aim'}
use Rattle.flatnames.specs.declared.state.Aim.TheVariants as a
use Rattle.flatnames.specs.declared.state.State.{State as State'}

abbrev pub known_of : Known' → Known
known_of (k.Variable v) = variable v
known_of (k.Parameter v) = parameter (value v)
known_of k.Other = other

unfoldable pub scope_of : BTreeMap (Bor (List ℕ)) Known' → Scope
scope_of m = λ q. option_map known_of (get_by (λ k. slice_cmp nat_cmp q k.now) m)

abbrev pub aim_of : Aim' → Aim
aim_of a.Satisfy = satisfy
aim_of (a.Minimize x) = minimize x
aim_of (a.Maximize x) = maximize x

abbrev pub state_of : State' → State
state_of s = record { scope = scope_of s.scope; variables = map declared s.variables.items; constraints = map item s.constraints.items; aim = option_map aim_of s.aim }
