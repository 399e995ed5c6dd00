use Rattle.std.proofs.Common.{sym}
use Rattle.flatconstants.proofs.ShortLaws.{no-short_code}
use Rattle.flatconstants.proofs.shorter.short_code.Goals as goal

pub returns-in_default : goal.returns-in_default
returns-in_default c = sym (no-short_code c.args.code c.args.constant c.in_default.not-IntLinEq c.in_default.not-IntLinNe c.in_default.not-IntLinLe c.in_default.not-IntLinLeReif)
