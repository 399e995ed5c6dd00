use Rattle.std.proofs.Common.{sym, ap, ◌∙◌, List}
use Rattle.integers.specs.Number.{+0}
use Rattle.flatzinc.specs.declared.Atom.TheVariants.{Whole}
use Rattle.flatzinc.specs.Calls.{placed_all}
use Rattle.flatzinc.specs.Items.{Placed}
use Rattle.flatrewriting.specs.Made.{and_more}
use Rattle.flatrewriting.proofs.ClauseLaws.{and_more-more, each-at, each-left}
use Rattle.flatrewriting.proofs.clauses.put_each.Goals as goal

pub loop-atom-preserved : goal.loop-atom-preserved
loop-atom-preserved c =
    rw c.in_ok-put_clause.ensures
    (and_more-more (placed_all c.loop-atom.calls.items) _ _ ∙ ap (λ (qs : List Placed). and_more (placed_all c.loop-atom.calls.items) qs)
    (sym (each-at c.args.conclusion c.args.atoms.now c.loop-atom.atom-index (Whole +0) c.loop-atom-test.true)) ∙ c.loop-atom.invariant)

pub returns : goal.returns
returns c = sym (each-left c.args.conclusion c.args.atoms.now c.loop-atom.atom-index (placed_all c.loop-atom.calls.items) c.loop-atom-test.false) ∙ c.loop-atom.invariant
