use Rattle.std.proofs.Common.{refl, List, map}
use Rattle.flatzinc.specs.declared.Argument.{Argument}
use Rattle.flatrewriting.specs.Arguments.{given}
use Rattle.flatconstants.specs.Numbers.{given_atoms, givens_atoms}
use Rattle.flatconstants.proofs.Flat.{flat-on, flat-done}
use Rattle.flatconstants.proofs.atoms.put_arguments.Goals as goal

pub loop-argument-preserved : goal.loop-argument-preserved
unfolding givens_atoms
loop-argument-preserved c =
    rw (c.in_ok-put_argument.ensures, c.argument-item.is)
    (flat-on (λ (g : Argument). given_atoms (given g)) (λ (gs : List Argument). givens_atoms (map given gs)) refl (λ g gs. refl)
    c.loop-argument.atoms.items _ c.args.arguments.now c.loop-argument.argument-index _ c.loop-argument-test.true c.loop-argument.invariant)

pub returns : goal.returns
unfolding givens_atoms
returns c =
    flat-done (λ (g : Argument). given_atoms (given g)) (λ (gs : List Argument). givens_atoms (map given gs)) refl (λ g gs. refl)
    c.loop-argument.atoms.items _ c.args.arguments.now c.loop-argument.argument-index c.loop-argument-test.false c.loop-argument.invariant
