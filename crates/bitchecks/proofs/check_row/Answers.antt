-- The constant is tested, then the numbers of the row over bits.
use Rattle.std.proofs.Common.{◌≡◌, sym, ◌∙◌, arith, pos, rules}
use Rattle.integers.specs.Lists.{all}
use Rattle.integers.proofs.Fits.{back, mul-le}
use Rattle.bittables.specs.BitTables.{firsts, row_by}
use Rattle.bitfilling.proofs.Filling.{limit_size}
use Rattle.bitchecks.proofs.Limits.{fits}
use Rattle.bitchecks.proofs.Rows.{row_none, row_some, constant-out, terms-out, row_in}
use Rattle.bitchecks.proofs.check_row.Goals.{After-row_constant-c, After-within_limit}
use Rattle.bitchecks.proofs.check_row.Goals as goal

-- the constant is the row's, and the first test is whether it fits
is-constant : (c : After-row_constant-c) → let a = c.args in
    c.row_constant-c.result ≡ (row_by a.table.now.domains.now (firsts a.table.now.bits.now) a.first a.head a.args.now).whole.constant
is-constant c = c.row_constant-c.ensures c.args.table.now.domains.now (firsts c.args.table.now.bits.now) c.args.first (search rules)

tests : (c : After-within_limit) → fits c.row_constant-c.result ≡ c.within_limit.result
tests c = sym (rw (back c.row_constant-c.result c.row_constant-c.type_inv) at c.within_limit.ensures)

pub returns-then-not-all_within : goal.returns-then-not-all_within
unfolding all
returns-then-not-all_within c =
    row_none (terms-out _ _ (is-constant (goal.at.returns-then-not-all_within c).After-row_constant-c) (tests (goal.at.returns-then-not-all_within c).After-within_limit ∙ c.if-not-within_limit.false) c.fill_row.ensures (pos 0) (sym c.all_within.ensures ∙ c.if-not-all_within.true))

pub times-requires : goal.times-requires
times-requires c =
    let l = limit_size c.row_constant-c.result (tests (goal.at.times-requires c).After-within_limit ∙ c.if-not-within_limit.false) in
    rw (back c.row_constant-c.result c.row_constant-c.type_inv) (omega (arith, mul-le l l))

pub returns : goal.returns
unfolding all
returns c =
    row_some (row_in _ _ (is-constant (goal.at.returns c).After-row_constant-c) (tests (goal.at.returns c).After-within_limit ∙ c.if-not-within_limit.false) c.fill_row.ensures _ (back c.times.result c.times.type_inv ∙ rw (back c.row_constant-c.result c.row_constant-c.type_inv) at c.times.ensures.value) (sym c.all_within.ensures ∙ c.if-not-all_within.false))

pub returns-then-not-within_limit : goal.returns-then-not-within_limit
returns-then-not-within_limit c = row_none (constant-out _ _ (is-constant (goal.at.returns-then-not-within_limit c).After-row_constant-c) (pos 0) (tests (goal.at.returns-then-not-within_limit c).After-within_limit ∙ c.if-not-within_limit.true))
