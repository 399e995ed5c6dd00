-- The name of each code: what the match says of the code is what its row in the table says.
use Rattle.std.proofs.Common.{◌≡◌, ap, sym}
use Rattle.models.specs.declared.code.Code.{Code}
use Rattle.models.specs.declared.code.Code.TheVariants as v
use Rattle.flattext.specs.Builtin.{builtin_name}
use Rattle.flattext.proofs.builtins.builtin_name.Goals as goal

by_code : (c k : Code) → c ≡ k → builtin_name k ≡ builtin_name c
by_code c k e = ap builtin_name (sym e)

pub returns-in-IntEq : goal.returns-in-IntEq
unfolding builtin_name
returns-in-IntEq c = by_code c.args.code v.IntEq c.in-IntEq.is

pub returns-in-IntLe : goal.returns-in-IntLe
unfolding builtin_name
returns-in-IntLe c = by_code c.args.code v.IntLe c.in-IntLe.is

pub returns-in-IntLt : goal.returns-in-IntLt
unfolding builtin_name
returns-in-IntLt c = by_code c.args.code v.IntLt c.in-IntLt.is

pub returns-in-IntNe : goal.returns-in-IntNe
unfolding builtin_name
returns-in-IntNe c = by_code c.args.code v.IntNe c.in-IntNe.is

pub returns-in-IntLeReif : goal.returns-in-IntLeReif
unfolding builtin_name
returns-in-IntLeReif c = by_code c.args.code v.IntLeReif c.in-IntLeReif.is

pub returns-in-IntPlus : goal.returns-in-IntPlus
unfolding builtin_name
returns-in-IntPlus c = by_code c.args.code v.IntPlus c.in-IntPlus.is

pub returns-in-IntTimes : goal.returns-in-IntTimes
unfolding builtin_name
returns-in-IntTimes c = by_code c.args.code v.IntTimes c.in-IntTimes.is

pub returns-in-IntAbs : goal.returns-in-IntAbs
unfolding builtin_name
returns-in-IntAbs c = by_code c.args.code v.IntAbs c.in-IntAbs.is

pub returns-in-IntMax : goal.returns-in-IntMax
unfolding builtin_name
returns-in-IntMax c = by_code c.args.code v.IntMax c.in-IntMax.is

pub returns-in-IntLinEq : goal.returns-in-IntLinEq
unfolding builtin_name
returns-in-IntLinEq c = by_code c.args.code v.IntLinEq c.in-IntLinEq.is

pub returns-in-IntLinLe : goal.returns-in-IntLinLe
unfolding builtin_name
returns-in-IntLinLe c = by_code c.args.code v.IntLinLe c.in-IntLinLe.is

pub returns-in-IntLinNe : goal.returns-in-IntLinNe
unfolding builtin_name
returns-in-IntLinNe c = by_code c.args.code v.IntLinNe c.in-IntLinNe.is

pub returns-in-IntLinEqReif : goal.returns-in-IntLinEqReif
unfolding builtin_name
returns-in-IntLinEqReif c = by_code c.args.code v.IntLinEqReif c.in-IntLinEqReif.is

pub returns-in-IntEqReif : goal.returns-in-IntEqReif
unfolding builtin_name
returns-in-IntEqReif c = by_code c.args.code v.IntEqReif c.in-IntEqReif.is

pub returns-in-IntLinLeReif : goal.returns-in-IntLinLeReif
unfolding builtin_name
returns-in-IntLinLeReif c = by_code c.args.code v.IntLinLeReif c.in-IntLinLeReif.is

pub returns-in-Bool2int : goal.returns-in-Bool2int
unfolding builtin_name
returns-in-Bool2int c = by_code c.args.code v.Bool2int c.in-Bool2int.is

pub returns-in-BoolNot : goal.returns-in-BoolNot
unfolding builtin_name
returns-in-BoolNot c = by_code c.args.code v.BoolNot c.in-BoolNot.is

pub returns-in-BoolAnd : goal.returns-in-BoolAnd
unfolding builtin_name
returns-in-BoolAnd c = by_code c.args.code v.BoolAnd c.in-BoolAnd.is

pub returns-in-BoolOr : goal.returns-in-BoolOr
unfolding builtin_name
returns-in-BoolOr c = by_code c.args.code v.BoolOr c.in-BoolOr.is

pub returns-in-BoolXor : goal.returns-in-BoolXor
unfolding builtin_name
returns-in-BoolXor c = by_code c.args.code v.BoolXor c.in-BoolXor.is

pub returns-in-BoolClause : goal.returns-in-BoolClause
unfolding builtin_name
returns-in-BoolClause c = by_code c.args.code v.BoolClause c.in-BoolClause.is

pub returns-in-ArrayBoolAnd : goal.returns-in-ArrayBoolAnd
unfolding builtin_name
returns-in-ArrayBoolAnd c = by_code c.args.code v.ArrayBoolAnd c.in-ArrayBoolAnd.is

pub returns-in-ArrayBoolXor : goal.returns-in-ArrayBoolXor
unfolding builtin_name
returns-in-ArrayBoolXor c = by_code c.args.code v.ArrayBoolXor c.in-ArrayBoolXor.is

pub returns-in-ArrayIntElement : goal.returns-in-ArrayIntElement
unfolding builtin_name
returns-in-ArrayIntElement c = by_code c.args.code v.ArrayIntElement c.in-ArrayIntElement.is

pub returns-in-ArrayVarIntElement : goal.returns-in-ArrayVarIntElement
unfolding builtin_name
returns-in-ArrayVarIntElement c = by_code c.args.code v.ArrayVarIntElement c.in-ArrayVarIntElement.is

pub returns-in-ArrayIntMaximum : goal.returns-in-ArrayIntMaximum
unfolding builtin_name
returns-in-ArrayIntMaximum c = by_code c.args.code v.ArrayIntMaximum c.in-ArrayIntMaximum.is

pub returns-in-SetIn : goal.returns-in-SetIn
unfolding builtin_name
returns-in-SetIn c = by_code c.args.code v.SetIn c.in-SetIn.is

pub returns-in-SetInReif : goal.returns-in-SetInReif
unfolding builtin_name
returns-in-SetInReif c = by_code c.args.code v.SetInReif c.in-SetInReif.is

pub returns-in-IntMin : goal.returns-in-IntMin
unfolding builtin_name
returns-in-IntMin c = by_code c.args.code v.IntMin c.in-IntMin.is

pub returns-in-IntLtReif : goal.returns-in-IntLtReif
unfolding builtin_name
returns-in-IntLtReif c = by_code c.args.code v.IntLtReif c.in-IntLtReif.is

pub returns-in-IntNeReif : goal.returns-in-IntNeReif
unfolding builtin_name
returns-in-IntNeReif c = by_code c.args.code v.IntNeReif c.in-IntNeReif.is

pub returns-in-IntLinNeReif : goal.returns-in-IntLinNeReif
unfolding builtin_name
returns-in-IntLinNeReif c = by_code c.args.code v.IntLinNeReif c.in-IntLinNeReif.is

pub returns-in-ArrayIntMinimum : goal.returns-in-ArrayIntMinimum
unfolding builtin_name
returns-in-ArrayIntMinimum c = by_code c.args.code v.ArrayIntMinimum c.in-ArrayIntMinimum.is

pub returns-in-BoolEqReif : goal.returns-in-BoolEqReif
unfolding builtin_name
returns-in-BoolEqReif c = by_code c.args.code v.BoolEqReif c.in-BoolEqReif.is

pub returns-in-BoolLeReif : goal.returns-in-BoolLeReif
unfolding builtin_name
returns-in-BoolLeReif c = by_code c.args.code v.BoolLeReif c.in-BoolLeReif.is

pub returns-in-BoolLtReif : goal.returns-in-BoolLtReif
unfolding builtin_name
returns-in-BoolLtReif c = by_code c.args.code v.BoolLtReif c.in-BoolLtReif.is

pub returns-in-IntDiv : goal.returns-in-IntDiv
unfolding builtin_name
returns-in-IntDiv c = by_code c.args.code v.IntDiv c.in-IntDiv.is

pub returns-in-IntMod : goal.returns-in-IntMod
unfolding builtin_name
returns-in-IntMod c = by_code c.args.code v.IntMod c.in-IntMod.is

pub returns-in-IntPow : goal.returns-in-IntPow
unfolding builtin_name
returns-in-IntPow c = by_code c.args.code v.IntPow c.in-IntPow.is
