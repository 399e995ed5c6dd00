-- A comment, or one byte.
use Rattle.std.proofs.Common.{rules, sym, ap, ◌∙◌, ℕ, ◌+◌}
use Rattle.tokens.specs.Byte.{in_comment}
use Rattle.tokens.proofs.Places.{blank_length, comment_length}
use Rattle.tokens.proofs.gap_length.Goals as goal

pub returns-then-b-eq37-clause-value : goal.returns-then-b-eq37-clause-value
unfolding in_comment
returns-then-b-eq37-clause-value c = ap (λ (n : ℕ). 1 + n) (c.run_of.ensures.value in_comment (λ b r q. search rules)) ∙ sym (comment_length c.args.b c.args.rest.now c.if-b-eq37.true)

pub returns-clause-value : goal.returns-clause-value
returns-clause-value c = sym (blank_length c.args.b c.args.rest.now c.requires c.if-b-eq37.false)
