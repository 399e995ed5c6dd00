-- The reader's fault, or what comes after; and what the words say.
use Rattle.std.proofs.Common.{sym}
use Rattle.std.proofs.lemmas.Result.{err_from_is_err_and}
use Rattle.words.proofs.Faulty.{fault-number}
use Rattle.bestforms.proofs.Written.{best-shared}
use Rattle.bestbits.proofs.Answers.{stands}
use Rattle.bestbits.proofs.Front.{wrote}
use Rattle.bestbits.proofs.best_bits.Goals as goal

pub returns-in_err-read_rows : goal.returns-in_err-read_rows
returns-in_err-read_rows c =
    let p = err_from_is_err_and c.from_residual.result c.from_residual.ensures.1 in
    let a = stands c.args.ws.now c.args.variable c.args.direction c.args.out.now _ c.in_err-read_rows.ensures.reads (fault-number _) in
    record {
      answer = rw (p.1, p.2) a.says;
      output = a.holds;
      room = rw p.1 tt;
      front = rw p.1 tt;
      shared = rw (p.1, p.2) (best-shared c.args.ws.now c.args.variable c.args.direction c.args.out.now a.says a.holds);
    }

pub best_accepted-requires : goal.best_accepted-requires
best_accepted-requires c = sym c.in_ok-read_rows.ensures.reads

pub returns : goal.returns
returns c =
    let a = c.best_accepted.ensures in
    let w = wrote c.args.ws.now c.args.variable c.args.direction c.args.out.now _ c.best_accepted.result a.says a.holds in
    record {
      answer = a.says;
      output = a.holds;
      room = w.0;
      front = w.1;
      shared = best-shared c.args.ws.now c.args.variable c.args.direction c.args.out.now a.says a.holds;
    }
