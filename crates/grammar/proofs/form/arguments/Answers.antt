-- By computation, builtin by builtin.
use Rattle.std.proofs.Common.{rules}
use mathlib.Core.List.{flat_map, flatten}
use Rattle.grammar.specs.Form.{argument_forms, in_text}
use Rattle.grammar.proofs.form.arguments.Goals as goal

pub returns-in-IntEq : goal.returns-in-IntEq
unfolding argument_forms in_text flat_map flatten
returns-in-IntEq c = search rules

pub returns-in-IntLeReif : goal.returns-in-IntLeReif
unfolding argument_forms in_text flat_map flatten
returns-in-IntLeReif c = search rules

pub returns-in-IntPow : goal.returns-in-IntPow
unfolding argument_forms in_text flat_map flatten
returns-in-IntPow c = search rules

pub returns-in-IntLinEq : goal.returns-in-IntLinEq
unfolding argument_forms in_text flat_map flatten
returns-in-IntLinEq c = search rules

pub returns-in-IntLinEqReif : goal.returns-in-IntLinEqReif
unfolding argument_forms in_text flat_map flatten
returns-in-IntLinEqReif c = search rules

pub returns-in-BoolClause : goal.returns-in-BoolClause
unfolding argument_forms in_text flat_map flatten
returns-in-BoolClause c = search rules

pub returns-in-ArrayBoolAnd : goal.returns-in-ArrayBoolAnd
unfolding argument_forms in_text flat_map flatten
returns-in-ArrayBoolAnd c = search rules

pub returns-in-ArrayBoolXor : goal.returns-in-ArrayBoolXor
unfolding argument_forms in_text flat_map flatten
returns-in-ArrayBoolXor c = search rules

pub returns-in-ArrayIntElement : goal.returns-in-ArrayIntElement
unfolding argument_forms in_text flat_map flatten
returns-in-ArrayIntElement c = search rules

pub returns-in-ArrayVarIntElement : goal.returns-in-ArrayVarIntElement
unfolding argument_forms in_text flat_map flatten
returns-in-ArrayVarIntElement c = search rules

pub returns-in-ArrayIntMaximum : goal.returns-in-ArrayIntMaximum
unfolding argument_forms in_text flat_map flatten
returns-in-ArrayIntMaximum c = search rules

pub returns-in-SetIn : goal.returns-in-SetIn
unfolding argument_forms in_text flat_map flatten
returns-in-SetIn c = search rules

pub returns-in-SetInReif : goal.returns-in-SetInReif
unfolding argument_forms in_text flat_map flatten
returns-in-SetInReif c = search rules
