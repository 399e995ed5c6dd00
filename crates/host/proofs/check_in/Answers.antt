-- The words of the bytes are the front of the list that is lent to check.
use Rattle.std.proofs.Common.{◌≡◌, ap, ◌∙◌, take}
use Rattle.words.specs.Answer.{refusal_number}
use Rattle.words.proofs.Overlay.{front-over}
use Rattle.encoding.specs.Bytes.{bytes_words}
use Rattle.rules.specs.Check.{check}
use Rattle.host.specs.Bytes.{check_bytes}
use Rattle.host.proofs.check_in.Goals.{After-words_of_bytes-n}
use Rattle.host.proofs.check_in.Goals as goal

-- the words lent to check are those of the bytes
front : (c : After-words_of_bytes-n) → take c.words_of_bytes-n.result c.words_of_bytes-n.new.out ≡ bytes_words c.args.bytes.now
front c = rw (c.words_of_bytes-n.ensures.count, c.words_of_bytes-n.ensures.words) (front-over _ (bytes_words c.args.bytes.now) c.requires)

pub returns : goal.returns
unfolding check_bytes
returns c = c.refusal_number.ensures ∙ ap refusal_number (c.check.ensures ∙ ap check (front (goal.at.returns c).After-words_of_bytes-n))
