use Rattle.std.proofs.Common.{◌≡◌, refl, arith, suc, ◌+◌, ◌-◌, ◌*◌}
use Rattle.words.proofs.Faulty.{fault-number}
use Rattle.rowsystems.specs.declared.Due.TheVariants.{Item}
use Rattle.rowreading.proofs.Inner.{no_word}
use Rattle.rowreading.proofs.Steps.{and_then, or-halted}
use Rattle.rowterms.proofs.Steps.{step-halts, constant-missing, next-constant}
use Rattle.rowterms.proofs.see_cut.Goals as goal

pub loop-init : goal.loop-init
loop-init c =
    let e : c.args.terms - 0 ≡ c.args.terms = omega arith in
    record { place = omega arith; reads = rw e (no_word c.args.ws.now c.args.n c.args.start c.requires.0.within) }

pub returns-in-Err : goal.returns-in-Err
returns-in-Err c =
    let e : suc (c.args.terms - (c.loop.counter + 1)) ≡ c.args.terms - c.loop.counter = omega arith in
    or-halted (and_then c.loop.invariant.reads refl refl (rw e at (c.in-Err.ensures.steps (c.args.terms - (c.loop.counter + 1))))) (fault-number _)

pub loop-preserved : goal.loop-preserved
loop-preserved c =
    let e : suc (c.args.terms - (c.loop.counter + 1)) ≡ c.args.terms - c.loop.counter = omega arith in
    record {
      place = omega (arith, c.in-Ok.ensures.end, c.loop.invariant.place);
      reads = and_then c.loop.invariant.reads refl refl (rw e at (c.in-Ok.ensures.steps (c.args.terms - (c.loop.counter + 1))));
    }

pub returns : goal.returns
returns c =
    let e : c.loop.counter ≡ c.args.terms = omega (arith, c.loop-test.false) in
    let a : c.args.start + 2 * c.args.terms ≡ c.loop.at = omega (arith, c.loop.invariant.place) in
    let m = constant-missing c.args.ws.now c.loop.at (omega (arith, c.requires.1)) in
    rw m at (step-halts {c = Item} (rw a at (next-constant c.args.ws.now c.args.n c.args.start c.args.terms c.loop.counter (rw c.loop.invariant.place at c.loop.invariant.reads) e)) (λ z. omega (arith, z, m)))
