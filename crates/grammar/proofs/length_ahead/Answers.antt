-- Token by token.
use Rattle.std.proofs.Common.{rules, eqb, sym, ◌∙◌, ◌≡◌, arith, ◌+◌, Bool, true, false, add-zero}
use Rattle.integers.specs.Choice.{◌if◌else◌}
use Rattle.tokens.specs.Sorts.{sort_number}
use Rattle.tokens.specs.Unread.{unread, spanned}
use Rattle.grammar.specs.Brackets.{length_from}
use Rattle.grammar.specs.Machine.{element_of, closing_of}
use Rattle.grammar.proofs.Ahead.{length-end, length-closed, length-broken, length-on}
use Rattle.grammar.proofs.length_ahead.Goals.{After-eq-in-Some}
use Rattle.grammar.proofs.length_ahead.Goals as goal

-- an element, or a comma, is passed
on : (c : After-eq-in-Some) (b : Bool) → c.eq-in-Some.result ≡ b →
    length_from (element_of c.args.bracketed) (closing_of c.args.bracketed) (sort_number c.loop-t.before) c.loop-t.n (unread c.args.text.now c.loop-t.at)
    ≡ length_from (element_of c.args.bracketed) (closing_of c.args.bracketed) (sort_number c.in-Some.t.sort) (c.loop-t.n + (1 if b else 0)) (unread c.args.text.now c.in-Some.t.stop)
unfolding spanned
on c b e =
    let closes : c.eq.result ≡ eqb (sort_number c.in-Some.t.sort) (sort_number c.closing.result) = search rules in
    let counts : c.eq-in-Some.result ≡ eqb (sort_number c.in-Some.t.sort) (sort_number c.element.result) = search rules in
    length-on (element_of c.args.bracketed) (closing_of c.args.bracketed) (sort_number c.loop-t.before) c.loop-t.n (spanned c.args.text.now c.in-Some.t) c.in-Some.ensures.found
    (sym c.fits_inside.ensures ∙ c.if-not-fits_inside.false) (rw c.closing.ensures at (sym closes ∙ c.if-eq.false)) b (rw c.element.ensures at (sym counts ∙ e))

pub returns-then-not-fits_inside : goal.returns-then-not-fits_inside
unfolding spanned
returns-then-not-fits_inside c = sym (c.loop-t.invariant.2 ∙ length-broken (element_of c.args.bracketed) (closing_of c.args.bracketed) (sort_number c.loop-t.before) c.loop-t.n (spanned c.args.text.now c.in-Some.t) c.in-Some.ensures.found (sym c.fits_inside.ensures ∙ c.if-not-fits_inside.true))

pub returns-then-eq : goal.returns-then-eq
unfolding spanned
returns-then-eq c =
    let closes : c.eq.result ≡ eqb (sort_number c.in-Some.t.sort) (sort_number c.closing.result) = search rules in
    sym (c.loop-t.invariant.2 ∙ length-closed (element_of c.args.bracketed) (closing_of c.args.bracketed) (sort_number c.loop-t.before) c.loop-t.n (spanned c.args.text.now c.in-Some.t) c.in-Some.ensures.found (sym c.fits_inside.ensures ∙ c.if-not-fits_inside.false) (rw c.closing.ensures at (sym closes ∙ c.if-eq.true)))

pub loop-t-preserved-then-eq-2 : goal.loop-t-preserved-then-eq-2
loop-t-preserved-then-eq-2 c =
    let m = c.in-Some.ensures in
    (m.inside, omega (arith, c.loop-t.invariant.1, m.longer, m.onward), c.loop-t.invariant.2 ∙ on (goal.at.loop-t-preserved-then-eq-2 c).After-eq-in-Some true c.if-eq-2.true)

pub loop-t-preserved : goal.loop-t-preserved
loop-t-preserved c =
    let m = c.in-Some.ensures in
    (m.inside, omega (arith, c.loop-t.invariant.1, m.longer, m.onward), c.loop-t.invariant.2 ∙ rw add-zero at (on (goal.at.loop-t-preserved c).After-eq-in-Some false c.if-eq-2.false))

pub returns : goal.returns
returns c = sym (c.loop-t.invariant.2 ∙ length-end (element_of c.args.bracketed) (closing_of c.args.bracketed) (sort_number c.loop-t.before) c.loop-t.n c.in_default.ensures)
