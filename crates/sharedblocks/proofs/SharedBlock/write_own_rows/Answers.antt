use Rattle.std.proofs.Common.{ne_eqb, append-nil}
use Rattle.laying.proofs.Written.{wrote-then}
use Rattle.sharedblocks.specs.Pieces.{own_row_parts}
use Rattle.models.proofs.AllCodes.{same-code}
use Rattle.sharedblocks.proofs.SharedBlock.write_own_rows.Goals as goal

-- The row of the members, or the row of what is left out and the rows of the code.
pub returns-in-ArrayIntElement : goal.returns-in-ArrayIntElement
unfolding own_row_parts
returns-in-ArrayIntElement c = rw c.in-ArrayIntElement.is (wrote-then (rw c.in-ArrayIntElement.is at c.write_left_out.ensures) c.write_numbers_row.ensures)

pub returns-in-ArrayVarIntElement : goal.returns-in-ArrayVarIntElement
unfolding own_row_parts
returns-in-ArrayVarIntElement c = rw c.in-ArrayVarIntElement.is (wrote-then (rw c.in-ArrayVarIntElement.is at c.write_left_out-in-ArrayVarIntElement.ensures) c.write_product_rows.ensures)

pub returns-in-SetInReif : goal.returns-in-SetInReif
unfolding own_row_parts
returns-in-SetInReif c = rw c.in-SetInReif.is (c.write_members_row.ensures)

pub returns-in_default : goal.returns-in_default
unfolding own_row_parts
returns-in_default c =
    let n = c.in_default in
    rw (ne_eqb _ _ (λ e. n.not-SetInReif (same-code e)), ne_eqb _ _ (λ e. n.not-ArrayIntElement (same-code e)), ne_eqb _ _ (λ e. n.not-ArrayVarIntElement (same-code e)), append-nil) (c.write_left_out-in_default.ensures)
