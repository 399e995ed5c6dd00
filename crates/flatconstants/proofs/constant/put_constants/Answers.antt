use Rattle.std.proofs.Common.{◌∙◌, sym, ◌+◌}
use Rattle.integers.specs.Number.{+0}
use Rattle.flatzinc.specs.declared.Atom.TheVariants.{Whole}
use Rattle.flatzinc.specs.Calls.{built_all}
use Rattle.flatconstants.proofs.BuiltLaws.{constants-on, constants-end}
use Rattle.flatconstants.proofs.constant.put_constants.Goals as goal

pub loop-k-preserved : goal.loop-k-preserved
loop-k-preserved c =
    rw c.in_ok-put_constant.ensures (constants-on (built_all c.loop-k.calls.items) c.args.first c.loop-k.k c.args.constants.now (Whole +0) c.loop-k-test.true ∙ c.loop-k.invariant)

pub returns : goal.returns
returns c = sym (constants-end (built_all c.loop-k.calls.items) (c.args.first + c.loop-k.k) c.loop-k.k c.args.constants.now c.loop-k-test.false) ∙ c.loop-k.invariant
