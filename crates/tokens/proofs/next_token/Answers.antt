-- Past the gap stands a token, or the text ends.
use Rattle.std.proofs.Common.{ℕ, ◌+◌, ◌∙◌, ap, refl, length-drop, arith}
use Rattle.tokens.proofs.Places.{token-here, none_left}
use Rattle.tokens.proofs.next_token.Goals as goal

pub returns-then-text-place : goal.returns-then-text-place
returns-then-text-place c = c.skip_gaps-place.ensures.same ∙ none_left c.args.text.now c.skip_gaps-place.result c.if-text-place.true

pub token_at-sort-requires : goal.token_at-sort-requires
token_at-sort-requires c = c.skip_gaps-place.ensures.no_gap c.if-text-place.false

pub returns : goal.returns
returns c =
    let bs = c.args.text.now in
    let i = c.skip_gaps-place.result in
    let gap = c.skip_gaps-place.ensures in
    let size = rw c.after.ensures at c.token_at-sort.ensures.size in
    record {
      onward = gap.onward;
      inside = omega (arith, size.1, length-drop (i + 1) bs, c.if-text-place.false);
      longer = omega (arith, size.0);
      no_end = λ e. omega (arith, e, c.token_at-sort.ensures.byte);
      found = gap.same ∙ token-here bs i c.if-text-place.false _ refl (ap (λ (n : ℕ). i + n) (rw c.after.ensures at c.token_at-sort.ensures.value)) (rw c.after.ensures at c.token_at-sort.ensures.sort) (gap.no_gap c.if-text-place.false);
    }
