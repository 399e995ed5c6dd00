-- A refusal of check stands; fault 16; else the words are written.
use Rattle.std.proofs.Common.{◌≡◌, ◌∙◌, arith, length}
use Rattle.std.proofs.lemmas.Result.{err_from_is_err_and}
use Rattle.words.specs.Answer.{written}
use Rattle.words.proofs.Written.{fits, front}
use Rattle.rules.specs.Translate.{translate, translated}
use Rattle.checking.proofs.Answers.{counted}
use Rattle.translation.proofs.Front.{wrote}
use Rattle.translation.proofs.Refusals.{stands, too_short, writes}
use Rattle.translation.proofs.translate.Goals as goal

pub returns-in_err-counts : goal.returns-in_err-counts
returns-in_err-counts c =
    let p = err_from_is_err_and c.from_residual.result c.from_residual.ensures.1 in
    let r = stands c.args.ws.now c.args.out.now (rw c.of-read.ensures.words at c.in_err-counts.ensures.answer) in
    rw (p.1, p.2) (record { answer = r.0; output = r.1.0; room = tt; front = tt; shared = r.1.1 })

pub returns-then-out-counts : goal.returns-then-out-counts
returns-then-out-counts c =
    let p = counted c.args.ws.now (rw c.of-read.ensures.words at c.in_ok-counts.ensures.answer) in
    let r = too_short c.args.ws.now c.args.out.now p.0 (omega (arith, p.3, c.if-out-counts.true)) in
    record { answer = r.0; output = r.1.0; room = tt; front = tt; shared = r.1.1 }

pub write_system-requires : goal.write_system-requires
write_system-requires c =
    let e = c.check_model.ensures.words ∙ c.of-read.ensures.words in
    let p = counted c.args.ws.now (rw c.of-read.ensures.words at c.in_ok-counts.ensures.answer) in
    (c.in_ok-counts.ensures.lists, rw e p.0, rw e (omega (arith, p.3, c.if-out-counts.false)))

pub returns : goal.returns
returns c =
    let e = c.check_model.ensures.words ∙ c.of-read.ensures.words in
    let p = counted c.args.ws.now (rw c.of-read.ensures.words at c.in_ok-counts.ensures.answer) in
    let r = writes c.args.ws.now c.args.out.now p.0 (omega (arith, p.3, c.if-out-counts.false)) in
    let w = rw e at c.write_system.ensures in
    let a : written c.in_ok-counts.counts.words ≡ translate c.args.ws.now (length c.args.out.now) = rw p.3 r.0 in
    let o : c.write_system.new.out ≡ translated c.args.ws.now c.args.out.now = rw w r.1.0 in
    let f = wrote c.args.ws.now c.args.out.now a o in
    record { answer = a; output = o; room = fits f; front = front f; shared = rw (p.3, w) r.1.1 }
