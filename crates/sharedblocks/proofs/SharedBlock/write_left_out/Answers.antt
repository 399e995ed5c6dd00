use Rattle.std.proofs.Common.{sym}
use Rattle.arguments.proofs.Size.{read}
use Rattle.integers.specs.Bounds.{bounds_in}
use Rattle.models.specs.Model.{var}
use Rattle.models.specs.Codes.{code_number}
use Rattle.laying.proofs.Written.{wrote-as}
use Rattle.sharedblocks.proofs.LeftOut.{row_parts-left_out}
use Rattle.sharedblocks.proofs.SharedBlock.write_left_out.Goals as goal

pub returns : goal.returns
returns c =
    let a = rw (read c.lower.type_inv c.lower.ensures.value, c.first_bit-v.ensures.value, c.width_of.ensures, c.index_of-index.ensures) at c.left_row.ensures in
    wrote-as (sym (row_parts-left_out (bounds_in c.args.self.now.domains.now) c.args.self.now.encoded.now c.args.self.now.first (var c.args.self.now.args.now 0) (code_number c.args.self.now.code) c.args.self.now.args.now)) (a)
