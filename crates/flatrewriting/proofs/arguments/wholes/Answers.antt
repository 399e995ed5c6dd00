use Rattle.std.proofs.Common.{refl, ap, rules, to_z-of_z, w64, FitsSigned}
use Rattle.integers.specs.Number.{+0}
use Rattle.flatzinc.specs.declared.Atom.TheVariants.{Whole}
use Rattle.flatzinc.specs.Items.{wholes}
use Rattle.flatrewriting.proofs.Walks.{fails_none, goes_on, stops, is_done}
use Rattle.flatrewriting.proofs.GivenLaws.{whole_of, not-whole, wholes-next}
use Rattle.flatrewriting.proofs.arguments.wholes.Goals as goal

pub returns-in_default : goal.returns-in_default
unfolding wholes
returns-in_default c =
    fails_none c.fault.result (wholes c.args.atoms.now)
    (stops whole_of wholes refl wholes-next c.loop-atom.numbers.items c.args.atoms.now c.loop-atom.atom-index (Whole +0) (wholes c.args.atoms.now) c.loop-atom-test.true
    (not-whole _ c.in_default.not-Whole) c.loop-atom.invariant)

pub loop-atom-preserved : goal.loop-atom-preserved
unfolding wholes
loop-atom-preserved c =
    let fits : FitsSigned w64 c.in-Whole.number = search rules in
    rw (c.in_ok-push.ensures.items, to_z-of_z fits)
    (goes_on whole_of wholes refl wholes-next c.loop-atom.numbers.items c.args.atoms.now c.loop-atom.atom-index (Whole +0) c.in-Whole.number (wholes c.args.atoms.now) c.loop-atom-test.true
    (ap whole_of c.in-Whole.is) c.loop-atom.invariant)

pub returns : goal.returns
unfolding wholes
returns c = is_done whole_of wholes refl wholes-next c.loop-atom.numbers.items c.args.atoms.now c.loop-atom.atom-index (wholes c.args.atoms.now) c.loop-atom-test.false c.loop-atom.invariant
