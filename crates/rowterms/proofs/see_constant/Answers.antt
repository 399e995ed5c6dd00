-- Past the constant, or to its fault.
use Rattle.std.proofs.Common.{sym, ◌∙◌, arith, eqb-true}
use borrow.Author.Tests.{eqb-false}
use Rattle.integers.proofs.Fits.{fits64, back}
use Rattle.words.specs.Word.{word_at}
use Rattle.words.specs.Limit as Limit
use Rattle.words.specs.Check.{fault_number_in, step_over}
use Rattle.words.proofs.ReadBack.{signed-near}
use Rattle.rowsystems.specs.RowSystem.{number_at}
use Rattle.rowsystems.specs.declared.Due.TheVariants.{Terms, Item}
use Rattle.rowreading.specs.Onward.{StepsTo}
use Rattle.rowreading.proofs.Inner.{row-constant}
use Rattle.rowterms.proofs.Steps.{step-halts, step-goes}
use Rattle.rowterms.proofs.see_constant.Goals.{After-from-c}
use Rattle.rowterms.proofs.see_constant.Goals as goal

constant : (c : After-from-c) → let a = c.args in StepsTo a.ws.now a.n (Terms 0) a.place Item (step_over (fault_number_in Limit.range c.from-c.result) a.place)
unfolding word_at
constant c = rw c.from-c.ensures (row-constant c.args.ws.now c.args.n c.args.place (omega (arith, c.requires.0)))

pub returns-then-not-is_number-clause-step : goal.returns-then-not-is_number-clause-step
returns-then-not-is_number-clause-step c =
    rw c.number_fault-fault.ensures
    (step-halts (constant (goal.at.returns-then-not-is_number-clause-step c).After-from-c) (eqb-false _ _ (sym c.is_number.ensures ∙ c.if-not-is_number.true)))

pub plus-requires : goal.plus-requires
plus-requires c = rw (back c.args.total (fits64 c.args.total (omega (arith, c.requires.1))).sfits, back c.signed.result c.signed.type_inv, c.signed.ensures) (omega (arith, c.requires.1, signed-near c.from-c.result))

pub returns-clause-step : goal.returns-clause-step
returns-clause-step c = step-goes c.args.place (constant (goal.at.returns-clause-step c).After-from-c) (eqb-true _ _ (sym c.is_number.ensures ∙ c.if-not-is_number.false))

pub returns-clause-truth : goal.returns-clause-truth
unfolding number_at word_at
returns-clause-truth c =
    c.is_true.ensures ∙ rw (back c.plus.result c.plus.type_inv, c.plus.ensures.value, back c.args.total (fits64 c.args.total (omega (arith, c.requires.1))).sfits, back c.signed.result c.signed.type_inv, c.signed.ensures, c.from-c.ensures)
