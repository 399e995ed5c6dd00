use Rattle.std.proofs.Common.{refl, sym, ◌∙◌, ◌+◌, arith, rules}
use Rattle.integers.proofs.Fits.{back}
use Rattle.words.proofs.Reading.{tail-is}
use Rattle.bittables.specs.BitTables.{firsts}
use Rattle.bitchecks.proofs.Rows.{from_none, from_some, rows_none, rows_some, square-small, checking_begun, checking_none, checking_fails, checking_one, checking_done}
use Rattle.bitchecks.proofs.check_rows.Goals.{then-starts_row+in_ok-square, else-starts_row}
use Rattle.bitchecks.proofs.check_rows.Goals as goal

pub loop-at-init : goal.loop-at-init
loop-at-init c = checking_begun _ _ _ _ _

pub returns-in_err-square : goal.returns-in_err-square
returns-in_err-square c =
    let said = rw (c.in_err-square.was, tail-is c.args.system.now.words.now (c.loop-at.at + 1), c.from-item.ensures, c.loop-at.invariant.long) at c.check_row.ensures in
    c.from_residual.ensures
    ∙ rows_none _ _ (checking_fails c.loop-at.invariant c.loop-at-test.true (sym c.starts_row.ensures ∙ c.if-starts_row.true) (from_none said).tested refl)

pub plus-constant-requires : goal.plus-constant-requires
plus-constant-requires c =
    let said = from_some (rw c.in_ok-square.was at c.check_row.ensures) in
    rw (back c.in_ok-square.square (search rules))
    (omega (arith, c.loop-at.invariant.size, c.loop-at.invariant.place, c.args.system.now.few_words, square-small said refl))

pub loop-at-preserved : goal.loop-at-preserved
loop-at-preserved c =
    elim c.if-starts_row.branch [
      | then-starts_row+in_ok-square w ↦
          let tail = tail-is c.args.system.now.words.now (c.loop-at.at + 1) in
          let said = from_some (rw (w.in_ok-square.was, tail, w.from-item.ensures, c.loop-at.invariant.long) at w.check_row.ensures) in
          rw (w.row-is, w.constant-is, w.first-is)
          (checking_one c.loop-at.invariant c.loop-at-test.true (sym c.starts_row.ensures ∙ w.if-starts_row.true) refl said w.own_bits-first.ensures.few
          (rw (tail, w.from-item.ensures) at (w.own_bits-first.ensures.value (firsts c.args.system.now.table.bits.now) c.loop-at.first)) w.check_row.auto.row
          (back w.plus-constant.result w.plus-constant.type_inv ∙ rw (back w.in_ok-square.square (search rules)) at w.plus-constant.ensures.value))
      | else-starts_row w ↦
          rw (w.row-is, w.constant-is, w.first-is)
          (checking_none c.loop-at.invariant c.loop-at-test.true (sym c.starts_row.ensures ∙ w.if-starts_row.false))
    ]

pub returns : goal.returns
returns c = rows_some (checking_done c.loop-at.invariant c.loop-at-test.false)
