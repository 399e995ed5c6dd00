-- The band has room for some lines.
use native.Mathlib.Nat.{le_of_eq}
use Rattle.std.proofs.Common.{sym, length-take-le}
use Rattle.bitform.proofs.form_of_many.Goals as goal

pub form_checked-requires-clause-banded : goal.form_checked-requires-clause-banded
form_checked-requires-clause-banded c =
    let few = c.requires.few in
    (record { room = le_of_eq (sym (length-take-le _ _ c.lines_of-lines.ensures.room)); row_size = length-take-le _ _ few; few = few }, c.lines_of-lines.ensures.some)
