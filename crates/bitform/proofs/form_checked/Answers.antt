-- A row or the constant that does not fit, or what the lines give.
use Rattle.std.proofs.Common.{◌≡◌, sym, ◌∙◌, arith, rules}
use Rattle.integers.proofs.Fits.{back}
use Rattle.bitforms.specs.BitForm.{bit_rows_of, bit_count, form_constant}
use Rattle.bitchecks.specs.Checked.{rows_checked}
use Rattle.bittaking.proofs.Far.{near-back}
use Rattle.bitwriting.specs.Lined.{added_of}
use Rattle.bitform.proofs.Answers.{too_large}
use Rattle.bitform.proofs.Found.{all_none, all_some}
use Rattle.bitform.proofs.Pieces.{row_unfit, constant_unfit}
use Rattle.bitform.proofs.form_checked.Goals.{After-check_rows}
use Rattle.bitform.proofs.form_checked.Goals as goal

-- what is found of the rows of the row system itself
found : (c : After-check_rows) → c.check_rows.result ≡ rows_checked (bit_count c.args.system.now.words.now) (bit_rows_of c.args.system.now.words.now)
found c = rw (c.requires.bits_listed.rows_are, c.requires.banded.0.row_size, c.requires.bits_listed.count) at c.check_rows.ensures

pub returns-in_default : goal.returns-in_default
returns-in_default c =
    too_large c.args.system.now.words.now c.args.out.now c.args.taken.now.times c.args.taken.now.constant (added_of c.args.taken.now)
    (row_unfit c.args.system.now.words.now c.args.taken.now.times c.args.taken.now.constant (added_of c.args.taken.now) (all_none _ _ (rw c.in_default.is at (found (goal.at.returns-in_default c).After-check_rows))))

pub take-c-requires : goal.take-c-requires
take-c-requires c =
    let k = c.args.taken.now.near in
    (rw (near-back _ k.near_times.few) k.near_times, rw (near-back c.args.taken.now.constant (omega (arith, k.near_constant))) k.near_constant)

pub returns-then-not-in_range : goal.returns-then-not-in_range
unfolding form_constant
returns-then-not-in_range c =
    let a = all_some _ _ (rw c.in-Some.is at (found (goal.at.returns-then-not-in_range c).After-check_rows)) in
    let b = back c.in-Some.squares (search rules) in
    let k = c.args.taken.now.near in
    let t = rw (near-back c.args.taken.now.times k.near_times.few, b, a.1, near-back c.args.taken.now.constant (omega (arith, k.near_constant))) at c.take-c.ensures in
    too_large c.args.system.now.words.now c.args.out.now c.args.taken.now.times c.args.taken.now.constant (added_of c.args.taken.now)
    (constant_unfit c.args.system.now.words.now c.args.taken.now.times c.args.taken.now.constant (added_of c.args.taken.now) a.0 (sym t.tested ∙ rw (back c.take-c.result c.take-c.type_inv) at (sym c.in_range.ensures ∙ c.if-not-in_range.true)))

pub write_or_count-requires-clause-fitting : goal.write_or_count-requires-clause-fitting
unfolding form_constant
write_or_count-requires-clause-fitting c =
    let a = all_some _ _ (rw c.in-Some.is at (found (goal.at.write_or_count-requires-clause-fitting c).After-check_rows)) in
    let b = back c.in-Some.squares (search rules) in
    let k = c.args.taken.now.near in
    let t = rw (near-back c.args.taken.now.times k.near_times.few, b, a.1, near-back c.args.taken.now.constant (omega (arith, k.near_constant))) at c.take-c.ensures in
    let d = back c.take-c.result c.take-c.type_inv in
    let e = sym c.in_range.ensures ∙ c.if-not-in_range.false in
    (rw c.requires.bits_listed.count a.0, d ∙ t.same (rw d at e), e)
