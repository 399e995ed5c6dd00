-- The reader's fault, or what comes after; and what the energy says.
use Rattle.std.proofs.lemmas.Result.{err_from_is_err_and}
use Rattle.words.proofs.Faulty.{fault-number}
use Rattle.bitanswers.proofs.FormValue.{form-answered}
use Rattle.bitsharing.proofs.ReadShares.{energy-shared}
use Rattle.bitenergy.proofs.Answers.{stands}
use Rattle.bitenergy.proofs.bit_energy.Goals as goal

pub returns-in_err-read_rows : goal.returns-in_err-read_rows
returns-in_err-read_rows c =
    let p = err_from_is_err_and c.from_residual.result c.from_residual.ensures.1 in
    let a = stands c.args.ws.now c.args.bits.now _ c.in_err-read_rows.ensures.reads (fault-number _) in
    record {
      answer = rw (p.1, p.2) a;
      form = rw (p.1, p.2) (form-answered c.args.ws.now c.args.bits.now a);
      shared = rw (p.1, p.2) (energy-shared c.args.ws.now c.args.bits.now a);
    }

pub returns-clause-form : goal.returns-clause-form
returns-clause-form c = form-answered c.args.ws.now c.args.bits.now c.energy_accepted.ensures

pub returns-clause-shared : goal.returns-clause-shared
returns-clause-shared c = energy-shared c.args.ws.now c.args.bits.now c.energy_accepted.ensures
