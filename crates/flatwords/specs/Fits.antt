-- What fits the words of a model: numbers in the range, numbers of variables below 2^28, at most 32 elements in a list, an exponent up to 27.
use Rattle.std.specs.Prelude.{◌≡◌, Bool, true, false, List, ℕ, ◌<◌, ◌≤◌, ℤ, length}
use Rattle.integers.specs.Terms.{Term}
use Rattle.integers.specs.declared.Bounds.{Bounds}
use Rattle.integers.proofs.Tests.{All}
use Rattle.words.specs.Word.{in_range}
use Rattle.models.specs.Table.{Sort, integer, boolean, number, exponent, numbers, set, integers, booleans, parallel, Argument}
use Rattle.models.specs.Builtin.{Builtin}
use Rattle.models.proofs.Arguments.{arguments_of}
use Rattle.flatzinc.specs.declared.ModelVariable.{ModelVariable}

abbrev pub Small : ℕ → Type 0
Small v = v < 268435456

abbrev pub InRange : ℤ → Type 0
InRange z = in_range z ≡ true

abbrev pub SmallTerm : Term ℕ → Type 0
SmallTerm t = InRange t.coefficient × Small t.variable

abbrev pub ArgumentFits : (s : Sort) → Argument s → Type 0
ArgumentFits integer v = Small v
ArgumentFits boolean v = Small v
ArgumentFits number n = InRange n
ArgumentFits exponent k = k ≤ 27
ArgumentFits numbers ns = (length ns ≤ 32) × All InRange ns
ArgumentFits set ns = (length ns ≤ 32) × All InRange ns
ArgumentFits integers vs = (length vs ≤ 32) × All Small vs
ArgumentFits booleans vs = (length vs ≤ 32) × All Small vs
ArgumentFits parallel ts = (length ts ≤ 32) × All SmallTerm ts

abbrev pub BuiltinFits : Builtin → Type 0
BuiltinFits b = All (λ g. ArgumentFits g.sort g.is) (arguments_of b)

-- a Boolean variable has a word of its own
abbrev pub VariableFits : Bool → Bounds → Type 0
VariableFits true B = Unit {0}
VariableFits false B = InRange B.lower × InRange B.upper

abbrev pub ModelFits : List ModelVariable → List Builtin → Type 0
ModelFits vs bs = All (λ v. VariableFits v.is_boolean v.bounds) vs × All BuiltinFits bs
