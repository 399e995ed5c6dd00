-- The band has room for all lines.
use native.Mathlib.Nat.{le_of_eq}
use lib.ListN.{length-replicate}
use Rattle.std.proofs.Common.{sym, arith, length-take-le, ◌*◌, ◌≤◌, ℤ, pos}
use Rattle.integers.proofs.Fits.{mul-le}
use Rattle.bitform.proofs.form_of_few.Goals as goal

pub form_checked-requires-clause-banded : goal.form_checked-requires-clause-banded
form_checked-requires-clause-banded g c =
    let r : c.args.n * c.args.n ≤ g.row.N * g.row.N = mul-le c.requires.1 c.requires.1 in
    let z : c.args.n * c.args.n ≤ g.row.NUMBERS = omega (arith, r, c.requires.3) in (
      record {
        room = le_of_eq (sym (length-take-le _ _ (rw (length-replicate {A = ℤ} g.row.NUMBERS (pos 0)) z)));
        row_size = length-take-le _ _ (rw (length-replicate {A = ℤ} g.row.N (pos 0)) c.requires.1);
        few = omega (arith, c.requires.1, c.requires.2);
      },
      λ h. h,
    )
