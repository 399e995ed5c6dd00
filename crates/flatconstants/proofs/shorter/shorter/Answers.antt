use Rattle.std.proofs.Common.{subst, map}
use Rattle.flatrewriting.specs.Arguments.{given}
use Rattle.flatconstants.specs.Short.{short, IsShort}
use Rattle.flatconstants.proofs.ShortLaws.{made-short, left_long}
use Rattle.flatconstants.proofs.shorter.shorter.Goals as goal

pub returns-in-Some : goal.returns-in-Some
returns-in-Some c = λ b e.
    made-short c.args.call c.in-Some.shorter b
    (subst (IsShort (short c.args.call.code (map given c.args.call.arguments.items))) c.in-Some.is (rw (← c.deref.ensures.value) c.in_ok-shorter.ensures)) e

pub returns-in-None : goal.returns-in-None
returns-in-None c = λ b e.
    left_long c.args.call b
    (subst (IsShort (short c.args.call.code (map given c.args.call.arguments.items))) c.in-None.is (rw (← c.deref.ensures.value) c.in_ok-shorter.ensures)) e
