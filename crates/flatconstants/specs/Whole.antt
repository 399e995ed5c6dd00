-- What the code answers: variables and calls over the numbers of variables.
use Rattle.std.specs.Prelude.{◌≡◌, List, ◌++◌, map, ℕ, Some}
use Rattle.models.specs.Builtin.{Builtin}
use Rattle.flatzinc.specs.declared.Atom.{Atom}
use Rattle.flatzinc.specs.declared.ModelVariable.{ModelVariable}
use Rattle.flatzinc.specs.declared.Call.{Call}
use Rattle.flatzinc.specs.Items.{Placed}
use Rattle.flatzinc.specs.Calls.{placed_call, placed_all, built_call, built_all}
use Rattle.flatrewriting.specs.Rewritten.{shorter}
use Rattle.flatconstants.specs.Constants.{with_numbers, constants}
use Rattle.flatconstants.specs.Numbered.{numbered}
use Rattle.flatconstants.specs.Numbers.{and_built, constant_variable}
use Rattle.flatconstants.specs.declared.number.Numbered.{Numbered}

-- a call that is built of the numbers of what another one is placed of
abbrev pub SameCall : ℕ → List Atom → Call → Call → Type 0
SameCall n table c d = (p : Placed) → placed_call c ≡ Some p → built_call d ≡ Some (shorter (with_numbers n table p))

-- a call that is built as the shorter builtin
abbrev pub IsShorter : Call → Call → Type 0
IsShorter c d = (b : Builtin) → built_call c ≡ Some b → built_call d ≡ Some (shorter b)

abbrev pub SameCalls : ℕ → List Atom → List Call → List Call → List Call → Type 0
SameCalls n table cs old new = (ps : List Placed) → placed_all cs ≡ Some ps → built_all new ≡ and_built (built_all old) (map (λ (p : Placed). shorter (with_numbers n table p)) ps)

-- the variables, and those of the constants; the builtins, with the constants and with the shorter builtins
abbrev pub IsNumbered : List ModelVariable → List Call → Numbered → Type 0
IsNumbered Vs cs r = (ps : List Placed) → placed_all cs ≡ Some ps →
    (r.variables.items ≡ Vs ++ map constant_variable (constants ps))
    × (built_all r.calls.items ≡ Some (numbered (record { bounds = map (λ v. v.bounds) Vs; items = ps })).builtins)
