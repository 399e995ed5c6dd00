-- The number of each builtin's code; a number is decoded as the code that has it.
use Rattle.std.specs.Prelude.{◌≡◌, ℕ, Result, MatchResult}
use Rattle.models.specs.declared.code.Code.{Code}
use Rattle.models.specs.declared.code.Code.TheVariants as c
use Rattle.models.specs.declared.code.UnknownCode.{UnknownCode}

abbrev pub code_number : Code → ℕ
code_number c.IntEq = 1
code_number c.IntLe = 2
code_number c.IntLt = 3
code_number c.IntNe = 4
code_number c.IntLeReif = 5
code_number c.IntPlus = 6
code_number c.IntTimes = 7
code_number c.IntAbs = 8
code_number c.IntMax = 9
code_number c.IntLinEq = 10
code_number c.IntLinLe = 11
code_number c.IntLinNe = 12
code_number c.IntLinEqReif = 13
code_number c.IntEqReif = 14
code_number c.IntLinLeReif = 15
code_number c.Bool2int = 16
code_number c.BoolNot = 17
code_number c.BoolAnd = 18
code_number c.BoolOr = 19
code_number c.BoolXor = 20
code_number c.BoolClause = 21
code_number c.ArrayBoolAnd = 22
code_number c.ArrayBoolXor = 23
code_number c.ArrayIntElement = 24
code_number c.ArrayVarIntElement = 25
code_number c.ArrayIntMaximum = 26
code_number c.SetIn = 27
code_number c.SetInReif = 28
code_number c.IntMin = 29
code_number c.IntLtReif = 30
code_number c.IntNeReif = 31
code_number c.IntLinNeReif = 32
code_number c.ArrayIntMinimum = 33
code_number c.BoolEqReif = 34
code_number c.BoolLeReif = 35
code_number c.BoolLtReif = 36
code_number c.IntDiv = 37
code_number c.IntMod = 38
code_number c.IntPow = 39

-- the code with this number, or the number where no code has it
abbrev pub Decodes : ℕ → Result Code UnknownCode → Type 0
Decodes n r = MatchResult r (λ c. code_number c ≡ n) (λ e. (e.0 ≡ n) × ((c : Code) → code_number c ≡ n → ⊥))
