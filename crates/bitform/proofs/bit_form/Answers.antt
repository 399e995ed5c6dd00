-- The reader's fault, or what comes after; and what the words say.
use Rattle.std.proofs.Common.{sym}
use Rattle.std.proofs.lemmas.Result.{err_from_is_err_and}
use Rattle.words.proofs.Faulty.{fault-number}
use Rattle.bitsharing.proofs.Written.{shares_of}
use Rattle.bitform.proofs.Answers.{stands}
use Rattle.bitform.proofs.Front.{wrote}
use Rattle.bitform.proofs.bit_form.Goals as goal

pub returns-in_err-read_rows : goal.returns-in_err-read_rows
returns-in_err-read_rows c =
    let p = err_from_is_err_and c.from_residual.result c.from_residual.ensures.1 in
    let a = stands c.args.ws.now c.args.out.now _ c.in_err-read_rows.ensures.reads (fault-number _) in
    record {
      answer = rw (p.1, p.2) a.says;
      output = a.holds;
      room = rw p.1 tt;
      front = rw p.1 tt;
      shared = rw (p.1, p.2) (shares_of c.args.ws.now c.args.out.now a.says a.holds);
    }

pub form_accepted-requires : goal.form_accepted-requires
form_accepted-requires c = sym c.in_ok-read_rows.ensures.reads

pub returns : goal.returns
returns c =
    let a = c.form_accepted.ensures in
    let w = wrote c.args.ws.now c.args.out.now _ c.form_accepted.result a.says a.holds in
    record {
      answer = a.says;
      output = a.holds;
      room = w.0;
      front = w.1;
      shared = shares_of c.args.ws.now c.args.out.now a.says a.holds;
    }
