-- Words that fit are the front of the list.
use Rattle.words.proofs.Overlay.{front-over}
use Rattle.encoding.proofs.front_words.Goals as goal

pub returns-clause-words : goal.returns-clause-words
returns-clause-words c = rw (c.words_of_bytes.ensures.count, c.words_of_bytes.ensures.words) (front-over c.args.out.now _ c.requires)
