use Rattle.std.proofs.Common.{sym, ap, ◌∙◌, List, ◌++◌, append_assoc}
use Rattle.flatzinc.specs.declared.Atom.{Atom}
use Rattle.flatzinc.specs.declared.Atom.TheVariants.{Whole}
use Rattle.integers.specs.Number.{+0}
use Rattle.flatrewriting.proofs.ClauseLaws.{without_here, without-more, all-kept}
use Rattle.flatrewriting.proofs.clauses.without.Goals as goal
use Rattle.flatrewriting.proofs.clauses.without.Goals.{then-not-is_constant+in_ok-push, else-not-is_constant}

pub loop-atom-preserved : goal.loop-atom-preserved
loop-atom-preserved c =
    elim c.if-not-is_constant.branch [
      | then-not-is_constant+in_ok-push w ↦
          let e = without-more c.args.truth c.args.atoms.now c.loop-atom.atom-index (Whole +0) c.loop-atom-test.true (sym c.is_constant.ensures ∙ w.if-not-is_constant.true) in
          rw (w.others-is, w.in_ok-push.ensures.items) (append_assoc c.loop-atom.others.items _ _ ∙ ap (λ (l : List Atom). c.loop-atom.others.items ++ l) (sym e) ∙ c.loop-atom.invariant)
      | else-not-is_constant w ↦
          let e = without_here c.args.truth c.args.atoms.now c.loop-atom.atom-index (Whole +0) c.loop-atom-test.true (sym c.is_constant.ensures ∙ w.if-not-is_constant.false) in
          rw w.others-is (ap (λ (l : List Atom). c.loop-atom.others.items ++ l) (sym e) ∙ c.loop-atom.invariant)
    ]

pub returns : goal.returns
returns c = sym (all-kept c.args.truth c.loop-atom.others.items c.args.atoms.now c.loop-atom.atom-index c.loop-atom-test.false) ∙ c.loop-atom.invariant
