-- Each code's block, at the table's entry for the code.
use Rattle.std.proofs.Common.{refl, sym, arith}
use mathlib.Core.List.{flat_map}
use Rattle.integers.specs.Lists.{any}
use Rattle.integers.specs.Bounds.{bounds_in}
use Rattle.models.specs.Model.{builtin, builtins}
use Rattle.rules.specs.Block.{numbered}
use Rattle.rules.specs.Parts.{◌─◌≤0}
use Rattle.rules.specs.Rule.{rule}
use Rattle.laying.specs.Part.{bound_parts, term_parts, row_parts, block_parts}
use Rattle.laying.specs.Lists.{many, row_parts_of}
use Rattle.linearsums.specs.Sum.{form_of, sum_of}
use Rattle.encodings.specs.Uses.{choosing}
use Rattle.blocks.proofs.OneBlock.{wrote, wrote_fitting, chooses}
use Rattle.blocks.proofs.write_block.Goals as goal

pub returns-in-IntEq : goal.returns-in-IntEq
unfolding builtin builtins choosing rule
returns-in-IntEq c = wrote c.args.context.now c.args.constraint.now c.in-IntEq.is refl ((rw (c.var_at-a.ensures, c.var_at-b.ensures) at c.int_eq.ensures) (bounds_in c.args.context.now.domains.now) c.args.context.now.first)

pub returns-in-IntLe : goal.returns-in-IntLe
unfolding builtin builtins choosing rule ◌─◌≤0 block_parts bound_parts flat_map row_parts term_parts numbered row_parts_of many
returns-in-IntLe c = wrote c.args.context.now c.args.constraint.now c.in-IntLe.is refl (rw (c.var_at-a.ensures, c.var_at-b.ensures) at c.two_terms.ensures)

pub returns-in-IntLt : goal.returns-in-IntLt
unfolding builtin builtins choosing rule ◌─◌≤0 block_parts bound_parts flat_map row_parts term_parts numbered row_parts_of many
returns-in-IntLt c = wrote c.args.context.now c.args.constraint.now c.in-IntLt.is refl (rw (c.var_at-a.ensures, c.var_at-b.ensures) at c.two_terms-in-IntLt.ensures)

pub returns-in-IntNe : goal.returns-in-IntNe
unfolding builtin builtins choosing rule
returns-in-IntNe c = wrote c.args.context.now c.args.constraint.now c.in-IntNe.is refl (rw (c.var_at-a.ensures, c.var_at-b.ensures) at c.int_ne.ensures)

pub returns-in-IntLeReif : goal.returns-in-IntLeReif
unfolding builtin builtins choosing rule
returns-in-IntLeReif c = wrote c.args.context.now c.args.constraint.now c.in-IntLeReif.is refl ((rw (c.var_at-a.ensures, c.var_at-b.ensures, c.var_at-c.ensures) at c.order_reif.ensures) c.args.context.now.first)

pub returns-in-IntPlus : goal.returns-in-IntPlus
unfolding builtin builtins choosing rule ◌─◌≤0 block_parts bound_parts flat_map row_parts term_parts numbered row_parts_of many
returns-in-IntPlus c = wrote c.args.context.now c.args.constraint.now c.in-IntPlus.is refl (rw (c.var_at-a.ensures, c.var_at-b.ensures, c.var_at-c.ensures) at c.three_terms.ensures)

pub returns-in-IntTimes : goal.returns-in-IntTimes
unfolding builtin builtins choosing
returns-in-IntTimes c = wrote c.args.context.now c.args.constraint.now c.in-IntTimes.is refl (rw (c.var_at-a.ensures, c.var_at-b.ensures, c.var_at-c.ensures) at c.int_times.ensures)

pub returns-in-IntAbs : goal.returns-in-IntAbs
unfolding builtin builtins choosing
returns-in-IntAbs c = wrote c.args.context.now c.args.constraint.now c.in-IntAbs.is refl (rw (c.var_at-a.ensures, c.var_at-b.ensures) at (c.int_abs.ensures (bounds_in c.args.context.now.domains.now) (sym c.bounds_of.ensures.value)))

pub returns-in-IntMax : goal.returns-in-IntMax
unfolding builtin builtins choosing rule
returns-in-IntMax c = wrote c.args.context.now c.args.constraint.now c.in-IntMax.is refl (rw (c.var_at-a.ensures, c.var_at-b.ensures, c.var_at-c.ensures) at c.touching.ensures)

pub returns-in-IntLinEq : goal.returns-in-IntLinEq
unfolding builtin builtins choosing
returns-in-IntLinEq c = wrote c.args.context.now c.args.constraint.now c.in-IntLinEq.is refl (c.int_lin_eq.ensures c.args.context.now.first (bounds_in c.args.context.now.domains.now))

pub returns-in-IntLinLe : goal.returns-in-IntLinLe
unfolding builtin builtins choosing
returns-in-IntLinLe c = wrote c.args.context.now c.args.constraint.now c.in-IntLinLe.is refl (c.int_lin_le.ensures c.args.context.now.first (bounds_in c.args.context.now.domains.now))

pub returns-in-IntLinNe : goal.returns-in-IntLinNe
unfolding builtin builtins choosing rule sum_of form_of any
returns-in-IntLinNe c = wrote c.args.context.now c.args.constraint.now c.in-IntLinNe.is refl (c.int_lin_ne.ensures (bounds_in c.args.context.now.domains.now) ((rw c.in-IntLinNe.is at c.requires.1).is (λ z. omega arith)))

pub returns-in-IntLinEqReif : goal.returns-in-IntLinEqReif
unfolding builtin builtins choosing rule sum_of form_of any
returns-in-IntLinEqReif c = wrote c.args.context.now c.args.constraint.now c.in-IntLinEqReif.is refl (c.zero_reif.ensures (bounds_in c.args.context.now.domains.now) ((rw c.in-IntLinEqReif.is at c.requires.1).is (λ z. omega arith)))

pub returns-in-IntEqReif : goal.returns-in-IntEqReif
unfolding builtin builtins choosing rule sum_of form_of any
returns-in-IntEqReif c = wrote c.args.context.now c.args.constraint.now c.in-IntEqReif.is refl (c.two_reif.ensures (bounds_in c.args.context.now.domains.now) ((rw c.in-IntEqReif.is at c.requires.1).is (λ z. omega arith)))

pub returns-in-IntLinLeReif : goal.returns-in-IntLinLeReif
unfolding builtin builtins choosing rule sum_of form_of any
returns-in-IntLinLeReif c = wrote c.args.context.now c.args.constraint.now c.in-IntLinLeReif.is refl (c.int_lin_le_reif.ensures (bounds_in c.args.context.now.domains.now) ((rw c.in-IntLinLeReif.is at c.requires.1).is (λ z. omega arith)))

pub returns-in-Bool2int : goal.returns-in-Bool2int
unfolding builtin builtins choosing rule
returns-in-Bool2int c = wrote c.args.context.now c.args.constraint.now c.in-Bool2int.is refl ((rw (c.var_at-a.ensures, c.var_at-b.ensures) at c.int_eq-in-Bool2int.ensures) (bounds_in c.args.context.now.domains.now) c.args.context.now.first)

pub returns-in-BoolNot : goal.returns-in-BoolNot
unfolding builtin builtins choosing rule ◌─◌≤0 block_parts bound_parts flat_map row_parts term_parts numbered row_parts_of many
returns-in-BoolNot c = wrote c.args.context.now c.args.constraint.now c.in-BoolNot.is refl (rw (c.var_at-a.ensures, c.var_at-b.ensures) at c.two_terms-in-BoolNot.ensures)

pub returns-in-BoolAnd : goal.returns-in-BoolAnd
unfolding builtin builtins choosing
returns-in-BoolAnd c = wrote c.args.context.now c.args.constraint.now c.in-BoolAnd.is refl ((rw (c.var_at-a.ensures, c.var_at-b.ensures, c.var_at-c.ensures) at c.bool_and.ensures) (bounds_in c.args.context.now.domains.now) c.args.context.now.first)

pub returns-in-BoolOr : goal.returns-in-BoolOr
unfolding builtin builtins choosing
returns-in-BoolOr c = wrote c.args.context.now c.args.constraint.now c.in-BoolOr.is refl ((rw (c.var_at-a.ensures, c.var_at-b.ensures, c.var_at-c.ensures) at c.bool_or.ensures) (bounds_in c.args.context.now.domains.now) c.args.context.now.first)

pub returns-in-BoolXor : goal.returns-in-BoolXor
unfolding builtin builtins choosing
returns-in-BoolXor c = wrote c.args.context.now c.args.constraint.now c.in-BoolXor.is refl ((rw (c.var_at-a.ensures, c.var_at-b.ensures, c.var_at-c.ensures) at c.bool_xor.ensures) (bounds_in c.args.context.now.domains.now))

pub returns-in-BoolClause : goal.returns-in-BoolClause
unfolding builtin builtins choosing
returns-in-BoolClause c = wrote c.args.context.now c.args.constraint.now c.in-BoolClause.is refl (c.bool_clause.ensures c.args.context.now.first (bounds_in c.args.context.now.domains.now))

pub returns-in-ArrayBoolAnd : goal.returns-in-ArrayBoolAnd
unfolding builtin builtins choosing
returns-in-ArrayBoolAnd c = wrote c.args.context.now c.args.constraint.now c.in-ArrayBoolAnd.is refl (c.array_bool_and.ensures c.args.context.now.first (bounds_in c.args.context.now.domains.now))

pub returns-in-ArrayBoolXor : goal.returns-in-ArrayBoolXor
unfolding builtin builtins choosing
returns-in-ArrayBoolXor c = wrote c.args.context.now c.args.constraint.now c.in-ArrayBoolXor.is refl (c.array_bool_xor.ensures (bounds_in c.args.context.now.domains.now))

pub returns-in-ArrayIntMaximum : goal.returns-in-ArrayIntMaximum
unfolding builtin builtins choosing rule
returns-in-ArrayIntMaximum c = wrote c.args.context.now c.args.constraint.now c.in-ArrayIntMaximum.is refl c.array_int_extreme.ensures

pub returns-in-IntMin : goal.returns-in-IntMin
unfolding builtin builtins choosing rule
returns-in-IntMin c = wrote c.args.context.now c.args.constraint.now c.in-IntMin.is refl (rw (c.var_at-a.ensures, c.var_at-b.ensures, c.var_at-c.ensures) at c.touching-in-IntMin.ensures)

pub returns-in-IntLtReif : goal.returns-in-IntLtReif
unfolding builtin builtins choosing rule
returns-in-IntLtReif c = wrote c.args.context.now c.args.constraint.now c.in-IntLtReif.is refl ((rw (c.var_at-a.ensures, c.var_at-b.ensures, c.var_at-c.ensures) at c.order_reif-in-IntLtReif.ensures) c.args.context.now.first)

pub returns-in-IntNeReif : goal.returns-in-IntNeReif
unfolding builtin builtins choosing rule sum_of form_of any
returns-in-IntNeReif c = wrote c.args.context.now c.args.constraint.now c.in-IntNeReif.is refl (c.two_reif-in-IntNeReif.ensures (bounds_in c.args.context.now.domains.now) ((rw c.in-IntNeReif.is at c.requires.1).is (λ z. omega arith)))

pub returns-in-IntLinNeReif : goal.returns-in-IntLinNeReif
unfolding builtin builtins choosing rule sum_of form_of any
returns-in-IntLinNeReif c = wrote c.args.context.now c.args.constraint.now c.in-IntLinNeReif.is refl (c.zero_reif-in-IntLinNeReif.ensures (bounds_in c.args.context.now.domains.now) ((rw c.in-IntLinNeReif.is at c.requires.1).is (λ z. omega arith)))

pub returns-in-ArrayIntMinimum : goal.returns-in-ArrayIntMinimum
unfolding builtin builtins choosing rule
returns-in-ArrayIntMinimum c = wrote c.args.context.now c.args.constraint.now c.in-ArrayIntMinimum.is refl c.array_int_extreme-in-ArrayIntMinimum.ensures

pub returns-in-BoolEqReif : goal.returns-in-BoolEqReif
unfolding builtin builtins choosing
returns-in-BoolEqReif c = wrote c.args.context.now c.args.constraint.now c.in-BoolEqReif.is refl ((rw (c.var_at-a.ensures, c.var_at-b.ensures, c.var_at-c.ensures) at c.bool_eq_reif.ensures) (bounds_in c.args.context.now.domains.now))

pub returns-in-BoolLeReif : goal.returns-in-BoolLeReif
unfolding builtin builtins choosing
returns-in-BoolLeReif c = wrote c.args.context.now c.args.constraint.now c.in-BoolLeReif.is refl ((rw (c.var_at-a.ensures, c.var_at-b.ensures, c.var_at-c.ensures) at c.bool_le_reif.ensures) (bounds_in c.args.context.now.domains.now) c.args.context.now.first)

pub returns-in-BoolLtReif : goal.returns-in-BoolLtReif
unfolding builtin builtins choosing
returns-in-BoolLtReif c = wrote c.args.context.now c.args.constraint.now c.in-BoolLtReif.is refl ((rw (c.var_at-a.ensures, c.var_at-b.ensures, c.var_at-c.ensures) at c.bool_lt_reif.ensures) (bounds_in c.args.context.now.domains.now) c.args.context.now.first)

pub returns-in-IntDiv : goal.returns-in-IntDiv
unfolding builtin builtins choosing
returns-in-IntDiv c = wrote c.args.context.now c.args.constraint.now c.in-IntDiv.is refl (rw (c.var_at-a.ensures, c.var_at-b.ensures, c.var_at-c.ensures) at c.int_div.ensures)

pub returns-in-IntMod : goal.returns-in-IntMod
unfolding builtin builtins choosing
returns-in-IntMod c = wrote c.args.context.now c.args.constraint.now c.in-IntMod.is refl (rw (c.var_at-a.ensures, c.var_at-b.ensures, c.var_at-c.ensures) at c.int_mod.ensures)

pub returns-in-IntPow : goal.returns-in-IntPow
unfolding builtin builtins choosing
returns-in-IntPow c = wrote_fitting c.args.context.now c.args.constraint.now c.in-IntPow.is refl (rw (c.var_at-a.ensures, c.exponent_at.ensures.value, c.var_at-c.ensures) at c.int_pow.ensures)

pub choice-requires : goal.choice-requires
choice-requires c = (c.requires.0, chooses c.in-ArrayIntElement.is)
