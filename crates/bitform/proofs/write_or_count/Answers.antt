-- Where all fits, the words; else what the lines give.
use Rattle.std.proofs.Common.{◌≡◌, true, ◌∙◌, arith, to_z-of_z}
use Rattle.bitforms.specs.BitForm.{bit_rows_of, bit_count}
use Rattle.bitforms.specs.Taken.{taken_entry}
use Rattle.bitwriting.specs.Lined.{added_of}
use Rattle.bitform.proofs.Answers.{writes}
use Rattle.bitform.proofs.Pieces.{fit, fits-found, words-length, lines-most}
use Rattle.bitform.proofs.write_or_count.Goals.{Then-surely_fits}
use Rattle.bitform.proofs.write_or_count.Goals as goal

pub surely_fits-requires : goal.surely_fits-requires
surely_fits-requires c = (c.requires.banded.0.row_size, c.requires.banded.0.few, rw c.requires.bits_listed.rows_are c.requires.fitting.0)

fits : (c : Then-surely_fits) → fit c.args.system.now.words.now c.args.taken.now.times c.args.taken.now.constant (added_of c.args.taken.now) ≡ true
fits c =
    fits-found c.args.system.now.words.now c.args.taken.now.times c.args.taken.now.constant (added_of c.args.taken.now) {x = true} {y = true} {z = true} (rw (← c.requires.bits_listed.count) c.requires.fitting.0) (rw (← c.requires.fitting.1) c.requires.fitting.2)
    (rw (c.requires.bits_listed.rows_are, c.requires.bits_listed.count) at (c.surely_fits.ensures c.if-surely_fits.true).1)

pub write_form-requires-clause-banded : goal.write_form-requires-clause-banded
write_form-requires-clause-banded c = (
  record { room = c.requires.banded.0.room; row_size = c.surely_fits.auto.row ∙ c.requires.banded.0.row_size; few = c.requires.banded.0.few },
  c.requires.banded.1,
  omega arith,
  record { lines = λ q v. absurd (omega arith); room = λ q v. absurd (omega arith) },
)

pub write_form-requires-clause-fitting : goal.write_form-requires-clause-fitting
write_form-requires-clause-fitting c =
    (rw (to_z-of_z c.ranges.c) c.requires.fitting.1, fits (goal.at.write_form-requires-clause-fitting c).Then-surely_fits)

pub returns-then-surely_fits : goal.returns-then-surely_fits
returns-then-surely_fits c =
    rw (c.write_form.ensures.0, c.write_form.ensures.1)
    (writes c.args.system.now.words.now c.args.out.now c.args.taken.now.times c.args.taken.now.constant (added_of c.args.taken.now) (fits (goal.at.returns-then-surely_fits c).Then-surely_fits)
    (omega (arith, words-length c.args.system.now.words.now c.args.taken.now.times c.args.taken.now.constant (added_of c.args.taken.now), lines-most (taken_entry c.args.taken.now.times (added_of c.args.taken.now) (bit_rows_of c.args.system.now.words.now)) 0 (bit_count c.args.system.now.words.now), rw c.requires.bits_listed.count at (c.surely_fits.ensures c.if-surely_fits.true).0)))
