use Rattle.std.proofs.Common.{◌∙◌, sym}
use Rattle.integers.specs.Number.{+0}
use Rattle.flatzinc.specs.declared.Atom.TheVariants.{Whole}
use Rattle.flatconstants.proofs.TableLaws.{collected_on, collected-end}
use Rattle.flatconstants.proofs.table.table_of.Goals as goal

pub loop-atom-preserved : goal.loop-atom-preserved
loop-atom-preserved c = (
  c.in_ok-put_atom.ensures.indexed,
  rw c.in_ok-put_atom.ensures.constants (sym (collected_on c.loop-atom.table.constants.items c.args.atoms.now c.loop-atom.atom-index (Whole +0) c.loop-atom-test.true) ∙ c.loop-atom.invariant.1),
)

pub returns-clause-constants : goal.returns-clause-constants
returns-clause-constants c = sym (collected-end c.loop-atom.table.constants.items c.args.atoms.now c.loop-atom.atom-index c.loop-atom-test.false) ∙ c.loop-atom.invariant.1
