use Rattle.std.proofs.Common.{◌≡◌, ◌∙◌, sym, refl}
use Rattle.integers.specs.Lists.{all}
use Rattle.flatconstants.specs.Typed.{call_typed}
use Rattle.flatconstants.proofs.Alls.{keeps, breaks, ends}
use Rattle.flatconstants.proofs.typed.all_typed.Goals as goal

pub returns-then-not-arguments_typed : goal.returns-then-not-arguments_typed
unfolding all
returns-then-not-arguments_typed c =
    let e : c.arguments_typed.result ≡ call_typed c.args.variables.now c.call-item.result = c.arguments_typed.ensures ∙ rw (c.sorts_of.ensures, c.deref.ensures.value) refl in
    sym (breaks (call_typed c.args.variables.now) (all (call_typed c.args.variables.now)) refl (λ x xs. refl) c.args.calls.now c.loop-call.call-index c.call-item.result c.loop-call-test.true
    (rw (← c.call-item.is) (sym e ∙ c.if-not-arguments_typed.true))) ∙ c.loop-call.invariant

pub loop-call-preserved : goal.loop-call-preserved
unfolding all
loop-call-preserved c =
    let e : c.arguments_typed.result ≡ call_typed c.args.variables.now c.call-item.result = c.arguments_typed.ensures ∙ rw (c.sorts_of.ensures, c.deref.ensures.value) refl in
    sym (keeps (call_typed c.args.variables.now) (all (call_typed c.args.variables.now)) refl (λ x xs. refl) c.args.calls.now c.loop-call.call-index c.call-item.result c.loop-call-test.true
    (rw (← c.call-item.is) (sym e ∙ c.if-not-arguments_typed.false))) ∙ c.loop-call.invariant

pub returns : goal.returns
unfolding all
returns c =
    sym (ends (call_typed c.args.variables.now) (all (call_typed c.args.variables.now)) refl (λ x xs. refl) c.args.calls.now c.loop-call.call-index c.loop-call-test.false) ∙ c.loop-call.invariant
