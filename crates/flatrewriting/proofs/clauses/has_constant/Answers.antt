use Rattle.std.proofs.Common.{sym, ◌∙◌}
use Rattle.flatzinc.specs.declared.Atom.TheVariants.{Whole}
use Rattle.integers.specs.Number.{+0}
use Rattle.flatrewriting.proofs.ClauseLaws.{any_here, any-later, none-left}
use Rattle.flatrewriting.proofs.clauses.has_constant.Goals as goal

pub returns-then-is_constant : goal.returns-then-is_constant
returns-then-is_constant c =
    sym (any_here c.args.truth c.args.atoms.now c.loop-atom.atom-index (Whole +0) c.loop-atom-test.true (sym c.is_constant.ensures ∙ c.if-is_constant.true)) ∙ c.loop-atom.invariant

pub loop-atom-preserved : goal.loop-atom-preserved
loop-atom-preserved c =
    sym (any-later c.args.truth c.args.atoms.now c.loop-atom.atom-index (Whole +0) c.loop-atom-test.true (sym c.is_constant.ensures ∙ c.if-is_constant.false)) ∙ c.loop-atom.invariant

pub returns : goal.returns
returns c = sym (none-left c.args.truth c.args.atoms.now c.loop-atom.atom-index c.loop-atom-test.false) ∙ c.loop-atom.invariant
