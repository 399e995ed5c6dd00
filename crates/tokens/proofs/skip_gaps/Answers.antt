use Rattle.std.proofs.Common.{sym, ap, ◌∙◌, ℕ, ◌+◌, length-drop, arith}
use Rattle.tokens.specs.Token.{token_length}
use Rattle.tokens.specs.Unread.{unread}
use Rattle.tokens.proofs.Places.{gap_here}
use Rattle.tokens.proofs.skip_gaps.Goals as goal

pub loop-place-preserved : goal.loop-place-preserved
loop-place-preserved c =
    let bs = c.args.text.now in
    let i = c.loop-place.place in
    let size = rw c.after.ensures at c.gap_length-place.ensures.size in (
      omega (arith, c.loop-place.invariant.0),
      omega (arith, size.1, length-drop (i + 1) bs, c.loop-place-test.true),
      c.loop-place.invariant.2 ∙ gap_here bs i (c.loop-place-test.true) (sym c.is_gap.ensures ∙ c.if-is_gap.true) ∙ ap (λ (n : ℕ). unread bs (i + n)) (sym (c.gap_length-place.ensures.value ∙ ap (token_length _) c.after.ensures)),
    )
