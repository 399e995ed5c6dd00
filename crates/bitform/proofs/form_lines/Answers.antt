-- An entry outside the range, a short output, or the words.
use Rattle.std.proofs.Common.{◌≡◌, ◌⊎◌, inl, inr, sym, ◌∙◌, true, List, ℕ, ◌≤◌, ℤ, arith, to_z-of_z}
use Rattle.bittables.specs.declared.table.BitSystem.{BitSystem}
use Rattle.bittaking.specs.declared.Taken.{Taken}
use Rattle.bitwriting.specs.Bands.{Held}
use Rattle.std.specs.Option.{is_some}
use Rattle.bitwriting.specs.Lined.{added_of}
use Rattle.bitform.proofs.Answers.{too_large, too_short, writes}
use Rattle.bitform.proofs.Pieces.{fit, fits-found, words-length}
use Rattle.bitform.proofs.form_lines.Goals.{After-count_lines}
use Rattle.bitform.proofs.form_lines.Goals as goal

fits : (c : After-count_lines) → fit c.args.system.now.words.now c.args.taken.now.times c.args.taken.now.constant (added_of c.args.taken.now) ≡ is_some c.count_lines.result
fits c =
    fits-found c.args.system.now.words.now c.args.taken.now.times c.args.taken.now.constant (added_of c.args.taken.now) {x = true} {y = true} (rw (← c.requires.bits_listed.count) c.requires.fitting.0) (rw (← c.requires.fitting.1) c.requires.fitting.2) (sym (rw (c.requires.bits_listed.rows_are, c.requires.bits_listed.count) at c.count_lines.ensures.put.tested))

pub returns-in_default : goal.returns-in_default
returns-in_default c =
    too_large c.args.system.now.words.now c.args.out.now c.args.taken.now.times c.args.taken.now.constant (added_of c.args.taken.now) (rw c.in_default.is at (fits (goal.at.returns-in_default c).After-count_lines))

pub returns-then-out-end : goal.returns-then-out-end
returns-then-out-end c =
    let put = rw (c.in-Some.is, c.requires.bits_listed.rows_are, c.requires.bits_listed.count) at c.count_lines.ensures.put in
    too_short c.args.system.now.words.now c.args.out.now c.args.taken.now.times c.args.taken.now.constant (added_of c.args.taken.now) (rw c.in-Some.is at (fits (goal.at.returns-then-out-end c).After-count_lines)) (omega (arith, words-length c.args.system.now.words.now c.args.taken.now.times c.args.taken.now.constant (added_of c.args.taken.now), put.laid.ends, c.if-out-end.true))

pub whole_band-ready-requires-clause-fitting : goal.whole_band-ready-requires-clause-fitting
whole_band-ready-requires-clause-fitting c = rw c.requires.bits_listed.rows_are c.requires.fitting.0

pub count_lines-requires-clause-fitting : goal.count_lines-requires-clause-fitting
count_lines-requires-clause-fitting c = rw c.requires.bits_listed.rows_are c.requires.fitting.0

pub count_lines-requires-clause-sized : goal.count_lines-requires-clause-sized
count_lines-requires-clause-sized c = (
  record { room = rw c.whole_band-ready.auto.band c.requires.banded.0.room; row_size = c.whole_band-ready.auto.row ∙ c.requires.banded.0.row_size; few = c.requires.banded.0.few },
  c.requires.banded.1,
  few c.whole_band-ready.ensures.whole,
  omega arith,
)
  where
    few : {r n : ℕ} → (r ≡ n) ⊎ (r ≡ 0) → r ≤ n
    few (inl e) = omega (arith, e)
    few (inr e) = omega (arith, e)

pub write_form-requires-clause-banded : goal.write_form-requires-clause-banded
write_form-requires-clause-banded c = (
  record { room = rw (c.count_lines.auto.band, c.whole_band-ready.auto.band) c.requires.banded.0.room; row_size = c.count_lines.auto.row ∙ c.whole_band-ready.auto.row ∙ c.requires.banded.0.row_size; few = c.requires.banded.0.few },
  c.requires.banded.1,
  few c.whole_band-ready.ensures.whole,
  still c.whole_band-ready.ensures.held c.whole_band-ready.ensures.whole c.count_lines.ensures.whole,
)
  where
    few : {r n : ℕ} → (r ≡ n) ⊎ (r ≡ 0) → r ≤ n
    few (inl e) = omega (arith, e)
    few (inr e) = omega (arith, e)

    -- a band that holds all lines stays
    still : {t : Taken} {s : BitSystem} {n r : ℕ} {a b : List ℤ} → Held t s n 0 r a → (r ≡ n) ⊎ (r ≡ 0) → (r ≡ n → b ≡ a) → Held t s n 0 r b
    still h (inl e) k = rw (k e) h
    still h (inr e) k = record { lines = λ q v. absurd (omega (arith, e)); room = λ q v. absurd (omega (arith, e)) }

pub write_form-requires-clause-fitting : goal.write_form-requires-clause-fitting
write_form-requires-clause-fitting c =
    (rw (to_z-of_z c.ranges.c) c.requires.fitting.1, rw c.in-Some.is at (fits (goal.at.write_form-requires-clause-fitting c).After-count_lines))

pub returns : goal.returns
returns c =
    let put = rw (c.in-Some.is, c.requires.bits_listed.rows_are, c.requires.bits_listed.count) at c.count_lines.ensures.put in
    rw (c.write_form.ensures.0, c.write_form.ensures.1) (writes c.args.system.now.words.now c.args.out.now c.args.taken.now.times c.args.taken.now.constant (added_of c.args.taken.now) (rw c.in-Some.is at (fits (goal.at.returns c).After-count_lines)) (omega (arith, words-length c.args.system.now.words.now c.args.taken.now.times c.args.taken.now.constant (added_of c.args.taken.now), put.laid.ends, c.if-out-end.false)))
