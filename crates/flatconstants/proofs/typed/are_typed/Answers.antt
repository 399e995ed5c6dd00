use Rattle.std.proofs.Common.{◌∙◌, sym, refl}
use Rattle.integers.specs.Number.{+0}
use Rattle.integers.specs.Lists.{all}
use Rattle.flatzinc.specs.declared.Atom.TheVariants.{Whole}
use Rattle.flatconstants.specs.Typed.{is_typed}
use Rattle.flatconstants.proofs.Alls.{keeps, breaks, ends}
use Rattle.flatconstants.proofs.typed.are_typed.Goals as goal

pub returns-then-not-is_typed : goal.returns-then-not-is_typed
unfolding all
returns-then-not-is_typed c =
    sym (breaks (is_typed c.args.variables.now c.args.is_boolean) (all (is_typed c.args.variables.now c.args.is_boolean)) refl (λ x xs. refl) c.args.atoms.now c.loop-atom.atom-index (Whole +0) c.loop-atom-test.true (sym c.is_typed.ensures ∙ c.if-not-is_typed.true)) ∙ c.loop-atom.invariant

pub loop-atom-preserved : goal.loop-atom-preserved
unfolding all
loop-atom-preserved c =
    sym (keeps (is_typed c.args.variables.now c.args.is_boolean) (all (is_typed c.args.variables.now c.args.is_boolean)) refl (λ x xs. refl) c.args.atoms.now c.loop-atom.atom-index (Whole +0) c.loop-atom-test.true (sym c.is_typed.ensures ∙ c.if-not-is_typed.false)) ∙ c.loop-atom.invariant

pub returns : goal.returns
unfolding all
returns c = sym (ends (is_typed c.args.variables.now c.args.is_boolean) (all (is_typed c.args.variables.now c.args.is_boolean)) refl (λ x xs. refl) c.args.atoms.now c.loop-atom.atom-index c.loop-atom-test.false) ∙ c.loop-atom.invariant
