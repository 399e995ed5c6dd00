use Rattle.std.proofs.Common.{◌∙◌, sym}
use Rattle.integers.specs.Number.{+0}
use Rattle.flatzinc.specs.declared.Atom.TheVariants.{Whole}
use Rattle.flatconstants.proofs.Declared.{stays, fails, at_end}
use Rattle.flatconstants.proofs.number.are_declared.Goals as goal

pub returns-then-not-is_declared : goal.returns-then-not-is_declared
returns-then-not-is_declared c =
    sym (fails c.args.others c.args.atoms.now c.loop-atom.atom-index (Whole +0) c.loop-atom-test.true (sym c.is_declared.ensures ∙ c.if-not-is_declared.true)) ∙ c.loop-atom.invariant

pub loop-atom-preserved : goal.loop-atom-preserved
loop-atom-preserved c =
    sym (stays c.args.others c.args.atoms.now c.loop-atom.atom-index (Whole +0) c.loop-atom-test.true (sym c.is_declared.ensures ∙ c.if-not-is_declared.false)) ∙ c.loop-atom.invariant

pub returns : goal.returns
returns c = sym (at_end c.args.others c.args.atoms.now c.loop-atom.atom-index c.loop-atom-test.false) ∙ c.loop-atom.invariant
