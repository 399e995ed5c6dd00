-- Test by test.
use Rattle.std.proofs.Common.{sym, ◌∙◌, arith}
use Rattle.tokens.proofs.Places.{dots_fit, sign_length}
use Rattle.tokens.proofs.token_at.Goals as goal

pub returns-then-starts_dots-clause-size : goal.returns-then-starts_dots-clause-size
returns-then-starts_dots-clause-size c = let l = dots_fit c.args.b c.args.rest.now (sym c.starts_dots.ensures ∙ c.if-starts_dots.true) in omega (arith, l)

pub returns-clause-value : goal.returns-clause-value
returns-clause-value c = sym (sign_length c.args.b c.args.rest.now c.requires (sym c.is_letter.ensures ∙ c.if-is_letter.false) (sym c.starts_number.ensures ∙ c.if-starts_number.false) (sym c.starts_dots.ensures ∙ c.if-starts_dots.false))
