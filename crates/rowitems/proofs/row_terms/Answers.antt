-- The head, then the terms and the constant, all there or cut off.
use Rattle.std.proofs.Common.{refl, sym, ◌∙◌, arith, true, ◌+◌, ◌≤◌, length}
use Rattle.words.proofs.Faulty.{fault-number}
use Rattle.rowitems.proofs.Passing.{head-there, head-stops, sum-fault, sum-few, row-head, row-passed}
use Rattle.rowitems.proofs.row_terms.Goals.{In_default}
use Rattle.rowitems.proofs.row_terms.Goals as goal

pub returns-in-Err-clause-halts : goal.returns-in-Err-clause-halts
returns-in-Err-clause-halts c sources =
    head-stops (record { within = c.requires.0.within; word = c.requires.1; fault = c.in-Err.ensures ∙ sym (sum-fault c.args.head c.requires.2 sources c.args.n) }) (fault-number _)

pub returns-then-at-terms-clause-whole : goal.returns-then-at-terms-clause-whole
returns-then-at-terms-clause-whole c =
    (c.payload-terms.ensures, omega (arith, c.payload-terms.ensures, sum-few c.args.head c.in_default.ensures), c.if-at-terms.true)

-- the head has no fault, so there is a word
there : (c : In_default) → c.args.at + 1 ≤ length c.args.ws.now
there c = omega (arith, head-there (row-head c.args.ws.now c.args.at c.args.head c.requires.0.within c.requires.1 c.requires.2 (sum-few c.args.head c.in_default.ensures) c.args.n true) refl)

pub see_cut-requires : goal.see_cut-requires
see_cut-requires c = (record { within = there (goal.at.see_cut-requires c).In_default; few = c.requires.0.few }, c.if-at-terms.false)

pub returns-clause-halts : goal.returns-clause-halts
returns-clause-halts c sources = row-passed c.args.ws.now c.args.at c.args.head c.requires.0.within c.requires.1 c.requires.2 (sum-few c.args.head c.in_default.ensures) (rw (← c.payload-terms.ensures) c.see_cut.ensures)
