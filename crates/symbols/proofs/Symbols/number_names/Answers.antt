-- Token by token.
use Rattle.std.proofs.Common.{◌≡◌, eqb, arith, rules}
use Rattle.tokens.specs.Sorts.{sort_number}
use Rattle.symbols.proofs.Entries.{same_index}
use Rattle.symbols.proofs.Reached.{begin, cleared_index, index-here, count-here, declares, next-table, index-before, index-end, same-names}
use Rattle.symbols.proofs.Symbols.number_names.Goals as goal

pub loop-token-init : goal.loop-token-init
loop-token-init c = (omega (arith, c.if-place-eq0.false), record { reached = begin c.args.text.now; index = cleared_index c.requires.clear })

pub note-k-requires : goal.note-k-requires
note-k-requires c = (
  omega (arith, c.in-Some.ensures.longer),
  c.in-Some.ensures.inside,
  omega (arith, c.loop-token.invariant.1.reached.few, c.loop-token.invariant.0, c.requires.inside),
  count-here c.loop-token.invariant.1 c.in-Some.ensures,
  declares c.loop-token.invariant.1.reached c.in-Some.ensures,
  index-here c.loop-token.invariant.1 c.in-Some.ensures,
)

pub returns-then-place-token : goal.returns-then-place-token
returns-then-place-token c = index-before c.loop-token.invariant.1 c.in-Some.ensures c.args.place (omega (arith, c.loop-token.invariant.0)) c.if-place-token.true

pub returns-then-place-token-2 : goal.returns-then-place-token-2
returns-then-place-token-2 c = same_index (same-names c.loop-token.invariant.1.reached c.in-Some.ensures c.args.place c.if-place-token.false c.if-place-token-2.true) c.note-k.ensures.index

pub loop-token-preserved : goal.loop-token-preserved
loop-token-preserved c =
    let colon : c.eq-after_colon.result ≡ eqb (sort_number c.in-Some.token.sort) 58 = search rules in (
      c.if-place-token-2.false,
      rw colon (next-table c.loop-token.invariant.1 c.in-Some.ensures c.note-k.ensures.next c.note-k.ensures.index),
    )

pub returns : goal.returns
returns c = index-end c.loop-token.invariant.1 c.args.place (omega (arith, c.loop-token.invariant.0)) c.in_default.ensures

pub returns-then-place-eq0 : goal.returns-then-place-eq0
returns-then-place-eq0 c = rw c.if-place-eq0.true (cleared_index c.requires.clear)
