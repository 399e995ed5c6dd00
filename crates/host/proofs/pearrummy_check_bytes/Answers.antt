-- Too many words are refused; else they fit the list, the short one or the long one.
use Rattle.std.proofs.Common.{◌∙◌, arith}
use Rattle.encoding.proofs.Words.{quarter}
use Rattle.host.proofs.Refused.{too_many}
use Rattle.host.proofs.pearrummy_check_bytes.Goals as goal

pub returns-then-bytes-gt-MODEL_WORDS : goal.returns-then-bytes-gt-MODEL_WORDS
returns-then-bytes-gt-MODEL_WORDS c = c.number.ensures ∙ too_many c.args.bytes.now (rw (quarter c.args.bytes.now) at c.if-bytes-gt-MODEL_WORDS.true)

pub check_in-requires : goal.check_in-requires
check_in-requires c = omega (arith, quarter c.args.bytes.now, c.if-bytes-le-SHORT.true)

pub check_in-requires-2 : goal.check_in-requires-2
check_in-requires-2 c = omega (arith, quarter c.args.bytes.now, c.if-bytes-gt-MODEL_WORDS.false)
