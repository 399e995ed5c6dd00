use Rattle.std.proofs.Common.{refl, map}
use Rattle.flatzinc.specs.declared.Call.{Call}
use Rattle.flatrewriting.specs.Arguments.{given}
use Rattle.flatconstants.specs.Numbers.{givens_atoms, calls_atoms}
use Rattle.flatconstants.proofs.Flat.{flat-on, flat-done}
use Rattle.flatconstants.proofs.atoms.atoms_of.Goals as goal

pub loop-call-preserved : goal.loop-call-preserved
unfolding calls_atoms
loop-call-preserved c =
    rw (c.in_ok-put_arguments.ensures, c.deref.ensures.value, c.call-item.is)
    (flat-on (λ (k : Call). givens_atoms (map given k.arguments.items)) calls_atoms refl (λ k ks. refl)
    c.loop-call.atoms.items _ c.args.calls.now c.loop-call.call-index _ c.loop-call-test.true c.loop-call.invariant)

pub returns : goal.returns
unfolding calls_atoms
returns c =
    flat-done (λ (k : Call). givens_atoms (map given k.arguments.items)) calls_atoms refl (λ k ks. refl)
    c.loop-call.atoms.items _ c.args.calls.now c.loop-call.call-index c.loop-call-test.false c.loop-call.invariant
