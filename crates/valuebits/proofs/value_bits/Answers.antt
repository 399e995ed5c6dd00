-- Judge-rows' answer, or what comes after; and what the bits say.
use Rattle.std.proofs.Common.{refl, sym}
use Rattle.std.proofs.lemmas.Result.{err_from_is_err_and}
use Rattle.words.specs.Answer.{is_holds}
use Rattle.bitanswers.proofs.ValueBits.{bits_read_of}
use Rattle.valuebits.proofs.Answers.{not-held}
use Rattle.valuebits.proofs.Front.{wrote}
use Rattle.valuebits.proofs.value_bits.Goals as goal

pub returns-in_err-judge_rows : goal.returns-in_err-judge_rows
unfolding is_holds
returns-in_err-judge_rows c =
    let p = err_from_is_err_and c.from_residual.result c.from_residual.ensures.1 in
    let a = not-held c.args.ws.now c.args.values.now c.args.out.now _ c.in_err-judge_rows.ensures refl in
    record {
      answer = rw (p.1, p.2) a.says;
      output = a.holds;
      room = rw p.1 tt;
      front = rw p.1 tt;
      read = rw (p.1, p.2) (bits_read_of c.args.ws.now c.args.values.now c.args.out.now a.says a.holds);
    }

pub returns-in-Holds : goal.returns-in-Holds
returns-in-Holds c =
    let a = c.bits_held.ensures in
    let w = wrote c.args.ws.now c.args.values.now c.args.out.now _ (sym (rw c.in-Holds.is at c.in_ok-judge_rows.ensures)) c.bits_held.result a.says a.holds in
    record { answer = a.says; output = a.holds; room = w.0; front = w.1; read = bits_read_of c.args.ws.now c.args.values.now c.args.out.now a.says a.holds }

pub returns-in-OutOfBounds : goal.returns-in-OutOfBounds
unfolding is_holds
returns-in-OutOfBounds c =
    let a = not-held c.args.ws.now c.args.values.now c.args.out.now _ (rw c.in-OutOfBounds.is at c.in_ok-judge_rows.ensures) refl in
    record { answer = a.says; output = a.holds; room = tt; front = tt; read = bits_read_of c.args.ws.now c.args.values.now c.args.out.now a.says a.holds }

pub returns-in-False : goal.returns-in-False
unfolding is_holds
returns-in-False c =
    let a = not-held c.args.ws.now c.args.values.now c.args.out.now _ (rw c.in-False.is at c.in_ok-judge_rows.ensures) refl in
    record { answer = a.says; output = a.holds; room = tt; front = tt; read = bits_read_of c.args.ws.now c.args.values.now c.args.out.now a.says a.holds }
