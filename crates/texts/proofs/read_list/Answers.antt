-- Token by token.
use Rattle.std.proofs.lemmas.Result.{err_from_is_err_and}
use Rattle.tokens.specs.Sorts.{sort_number}
use Rattle.symbols.proofs.Reached.{index-here}
use Rattle.texts.proofs.Loop.{stands, index-on, latest-on, known-on}
use Rattle.texts.proofs.Inside.{begin, fitting-colon, element-on, comma-on, closed, fails-there, fails-at-end}
use Rattle.texts.proofs.read_list.Goals as goal

pub loop-t-init : goal.loop-t-init
loop-t-init c = (rw c.opening-before.ensures (begin c.args.text.now c.args.bracketed c.args.from c.args.written.now c.requires.place.1 c.requires.place.0), c.requires.names)

pub inside_at-requires : goal.inside_at-requires
inside_at-requires c = (stands c.in-Some.ensures, index-here c.loop-t.invariant.1.tabled c.in-Some.ensures)

pub returns-in_err-inside-clause-list : goal.returns-in_err-inside-clause-list
returns-in_err-inside-clause-list c =
    let p = err_from_is_err_and c.from_residual.result c.from_residual.ensures.1 in
    rw (p.1, p.2) (fails-there c.loop-t.invariant.0 c.in-Some.ensures _ c.in_err-inside.ensures.0 c.in_err-inside.ensures.1)

pub pass-requires-clause-none : goal.pass-requires-clause-none
pass-requires-clause-none c = latest-on c.loop-t.invariant.1 c.in-Some.ensures

pub pass-requires-clause-index : goal.pass-requires-clause-index
pass-requires-clause-index c = index-on c.loop-t.invariant.1 c.in-Some.ensures

pub returns-in-Closing-clause-list : goal.returns-in-Closing-clause-list
returns-in-Closing-clause-list c =
    let g = rw c.in-Closing.is at c.in_ok-inside.ensures in
    closed c.loop-t.invariant.0 c.in-Some.ensures g.0 g.1 g.2

pub returns-in-Closing-clause-names : goal.returns-in-Closing-clause-names
returns-in-Closing-clause-names c =
    let g = rw c.in-Closing.is at c.in_ok-inside.ensures in
    known-on c.loop-t.invariant.1 c.in-Some.ensures (fitting-colon c.args.bracketed (sort_number c.loop-t.before) (sort_number c.in-Some.t.sort) g.0) c.pass.ensures.index c.pass.ensures.latest

pub loop-t-preserved-in-Element : goal.loop-t-preserved-in-Element
loop-t-preserved-in-Element c =
    let g = rw c.in-Element.is at c.in_ok-inside.ensures in (
      element-on c.loop-t.invariant.0 c.in-Some.ensures g.1 g.2 g.3 g.0 c.put.ensures,
      known-on c.loop-t.invariant.1 c.in-Some.ensures (fitting-colon c.args.bracketed (sort_number c.loop-t.before) (sort_number c.in-Some.t.sort) g.1) c.pass.ensures.index c.pass.ensures.latest,
    )

pub loop-t-preserved : goal.loop-t-preserved
loop-t-preserved c =
    let g = rw c.in-Comma.is at c.in_ok-inside.ensures in (
      comma-on c.loop-t.invariant.0 c.in-Some.ensures g.0 g.1 g.2,
      known-on c.loop-t.invariant.1 c.in-Some.ensures (fitting-colon c.args.bracketed (sort_number c.loop-t.before) (sort_number c.in-Some.t.sort) g.0) c.pass.ensures.index c.pass.ensures.latest,
    )

pub returns-clause-list : goal.returns-clause-list
returns-clause-list c = fails-at-end c.loop-t.invariant.0 c.in_default.ensures
