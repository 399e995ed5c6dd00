use Rattle.std.proofs.Common.{◌∙◌, sym, arith}
use Rattle.flatrewriting.specs.declared.sort.Sort.TheVariants.{Integer}
use Rattle.flatconstants.proofs.Alls.{unequal, both-keeps, both-breaks, both-ends}
use Rattle.flatconstants.proofs.typed.arguments_typed.Goals as goal

pub returns-then-sorts-arguments : goal.returns-then-sorts-arguments
returns-then-sorts-arguments c = sym (unequal c.args.variables.now c.args.sorts.now c.args.arguments.now c.if-sorts-arguments.true)

pub returns-then-not-argument_typed : goal.returns-then-not-argument_typed
returns-then-not-argument_typed c =
    sym (both-breaks c.args.variables.now c.args.sorts.now c.args.arguments.now c.loop-k.k Integer c.index-arguments-k.result c.loop-k-test.true (omega arith)
    (rw (← c.index-arguments-k.is) (sym c.argument_typed.ensures ∙ c.if-not-argument_typed.true))) ∙ c.loop-k.invariant

pub loop-k-preserved : goal.loop-k-preserved
loop-k-preserved c =
    sym (both-keeps c.args.variables.now c.args.sorts.now c.args.arguments.now c.loop-k.k Integer c.index-arguments-k.result c.loop-k-test.true (omega arith)
    (rw (← c.index-arguments-k.is) (sym c.argument_typed.ensures ∙ c.if-not-argument_typed.false))) ∙ c.loop-k.invariant

pub returns : goal.returns
returns c = sym (both-ends c.args.variables.now c.args.sorts.now c.args.arguments.now c.loop-k.k (omega arith) (omega arith)) ∙ c.loop-k.invariant
