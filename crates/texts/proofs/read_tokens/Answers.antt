-- Token by token, and list by list.
use Rattle.std.proofs.Common.{◌≡◌, refl, eqb, arith, rules}
use Rattle.std.proofs.lemmas.Result.{err_from_is_err_and}
use Rattle.tokens.specs.Sorts.{sort_number}
use Rattle.symbols.proofs.Reached as Reached
use Rattle.symbols.proofs.Reached.{index-here, index-end, count-here, declares, latest-here, next-table}
use Rattle.grammar.specs.Machine.{due_of}
use Rattle.texts.proofs.Loop.{begin, on, stands, reads-step, most-one, fails-here, argument-reads, argument-fails, opening-colon, stop-reads, ends-well, ends-early}
use Rattle.texts.proofs.read_tokens.Goals as goal

pub loop-t-init : goal.loop-t-init
loop-t-init c = (
  begin c.args.text.now c.args.written.now c.requires.none.1,
  record { reached = Reached.begin c.args.text.now; index = c.requires.index },
  rw c.requires.none.0 (record { before = omega arith; same = refl }),
)

pub step_at-requires : goal.step_at-requires
step_at-requires c = (stands c.in-Some.ensures, index-here c.loop-t.invariant.1 c.in-Some.ensures)

pub returns-in_err-step : goal.returns-in_err-step
returns-in_err-step c =
    let p = err_from_is_err_and c.from_residual.result c.from_residual.ensures.1 in
    rw (p.1, p.2) (stop-reads c.loop-t.invariant.0 _ _ (fails-here (due_of c.loop-t.due) c.in-Some.ensures _ c.in_err-step.ensures.0 c.in_err-step.ensures.1))

pub declare-variables-requires : goal.declare-variables-requires
declare-variables-requires c = (
  (
    omega (arith, c.in-Some.ensures.longer),
    c.in-Some.ensures.inside,
    omega (arith, c.loop-t.invariant.1.reached.few, c.loop-t.invariant.0.ends),
    count-here c.loop-t.invariant.1 c.in-Some.ensures,
    declares c.loop-t.invariant.1.reached c.in-Some.ensures,
    index-here c.loop-t.invariant.1 c.in-Some.ensures,
  ),
  latest-here c.loop-t.invariant.1.reached c.in-Some.ensures c.loop-t.invariant.2,
)

pub declare-variables-requires-in-Opens : goal.declare-variables-requires-in-Opens
declare-variables-requires-in-Opens c = (
  (
    omega (arith, c.in-Some.ensures.longer),
    c.in-Some.ensures.inside,
    omega (arith, c.loop-t.invariant.1.reached.few, c.loop-t.invariant.0.ends),
    count-here c.loop-t.invariant.1 c.in-Some.ensures,
    declares c.loop-t.invariant.1.reached c.in-Some.ensures,
    index-here c.loop-t.invariant.1 c.in-Some.ensures,
  ),
  latest-here c.loop-t.invariant.1.reached c.in-Some.ensures c.loop-t.invariant.2,
)

pub loop-t-preserved-in-Single : goal.loop-t-preserved-in-Single
loop-t-preserved-in-Single c =
    let colon : c.eq-after_colon.result ≡ eqb (sort_number c.in-Some.t.sort) 58 = search rules in
    let g = rw c.in-Single.is at c.in_ok-step.ensures in
    let m = c.in-Some.ensures in (
      on c.loop-t.invariant.0 c.append.ensures (reads-step (due_of c.loop-t.due) m c.in-Single.word g.0 g.1) m.inside (omega (arith, c.append.ensures.count, most-one c.in-Single.word, c.loop-t.invariant.0.few, m.onward, m.longer)),
      rw colon (next-table c.loop-t.invariant.1 m c.declare-variables.ensures.next c.declare-variables.ensures.index),
      c.declare-variables.ensures.latest,
    )

pub read_argument-requires-clause-names : goal.read_argument-requires-clause-names
read_argument-requires-clause-names c =
    let g = rw c.in-Opens.is at c.in_ok-step.ensures in
    let n = next-table c.loop-t.invariant.1 c.in-Some.ensures c.declare-variables-in-Opens.ensures.next c.declare-variables-in-Opens.ensures.index in
    record { tabled = rw (opening-colon c.in-Opens.list.bracketed g.0, ← n.reached.count) at n; latest = c.declare-variables-in-Opens.ensures.latest }

pub returns-in_err-stop-in-Opens : goal.returns-in_err-stop-in-Opens
returns-in_err-stop-in-Opens c =
    let p = err_from_is_err_and c.from_residual-in_err-stop-in-Opens.result c.from_residual-in_err-stop-in-Opens.ensures.1 in
    let g = rw c.in-Opens.is at c.in_ok-step.ensures in
    rw (p.1, p.2) (stop-reads c.loop-t.invariant.0 _ _ (argument-fails (due_of c.loop-t.due) c.in-Some.ensures c.in-Opens.list g.1 _ c.in_err-stop-in-Opens.ensures.list))

pub loop-t-smaller : goal.loop-t-smaller
loop-t-smaller c =
    let h = c.in_ok-stop-in-Opens.ensures.list in
    omega (arith, h.onward, h.ends, c.in-Some.ensures.longer, c.in-Some.ensures.onward)

pub loop-t-preserved : goal.loop-t-preserved
loop-t-preserved c =
    let g = rw c.in-Opens.is at c.in_ok-step.ensures in
    let n = next-table c.loop-t.invariant.1 c.in-Some.ensures c.declare-variables-in-Opens.ensures.next c.declare-variables-in-Opens.ensures.index in
    let h = c.in_ok-stop-in-Opens.ensures.list in (
      on c.loop-t.invariant.0 h.adds (argument-reads (due_of c.loop-t.due) c.in-Some.ensures c.in-Opens.list g.1 h) h.ends h.few,
      rw n.reached.count at c.in_ok-stop-in-Opens.ensures.names.tabled,
      c.in_ok-stop-in-Opens.ensures.names.latest,
    )

pub check_end-requires : goal.check_end-requires
check_end-requires c = index-end c.loop-t.invariant.1 _ c.loop-t.invariant.0.ends c.in_default.ensures

pub returns-in_err-check_end : goal.returns-in_err-check_end
returns-in_err-check_end c =
    let p = err_from_is_err_and c.from_residual-in_err-check_end.result c.from_residual-in_err-check_end.ensures.1 in
    rw (p.1, p.2) (ends-early c.loop-t.invariant.0 c.in_default.ensures _ _ c.in_err-check_end.ensures)

pub returns : goal.returns
returns c = ends-well c.loop-t.invariant.0 c.in_default.ensures c.requires.none.1 c.in_ok-check_end.ensures
