-- The code tests the payload, which is that of one number alone.
use Rattle.std.proofs.Common.{sym}
use Rattle.words.proofs.Range.{lowest-alone}
use Rattle.words.proofs.word.Word.is_lowest.Goals as goal

pub returns : goal.returns
returns c = rw c.payload.ensures (sym (lowest-alone c.args.self))
