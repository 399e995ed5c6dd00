-- The first token from the place on.
use Rattle.std.proofs.Common.{length, lt-ltb, le-ltb}
use Rattle.tokens.specs.Unread.{spanned}
use Rattle.labels.specs.Named.{first_spelling}
use Rattle.labels.proofs.named.token_at.Goals as goal

pub returns-then-text-place : goal.returns-then-text-place
unfolding first_spelling
returns-then-text-place c = rw (lt-ltb (length c.args.text.now) c.args.place c.if-text-place.true)

pub returns-in-None : goal.returns-in-None
unfolding first_spelling
returns-in-None c = rw (le-ltb (length c.args.text.now) c.args.place c.if-text-place.false, c.in-None.ensures)

pub returns-in-Some : goal.returns-in-Some
unfolding first_spelling spanned
returns-in-Some c = rw (le-ltb (length c.args.text.now) c.args.place c.if-text-place.false, c.in-Some.ensures.found) c.bytes.ensures
