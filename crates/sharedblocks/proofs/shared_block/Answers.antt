use Rattle.std.proofs.Common.{sym}
use Rattle.integers.specs.Bounds.{bounds_in}
use Rattle.models.specs.Codes.{code_number}
use Rattle.laying.proofs.Written.{wrote-then, wrote-as}
use Rattle.sharedblocks.proofs.Blocks.{pieced}
use Rattle.sharedblocks.proofs.shared_block.Goals as goal

-- New bits, bounds of the products, both rows of the new bits, the rows of the code.
pub returns : goal.returns
returns c = wrote-as (sym (pieced (bounds_in c.args.domains.now) c.args.args.now c.args.encoded.now c.args.first (code_number c.args.code) c.requires.1)) (wrote-then c.write_new_bits.ensures (wrote-then c.write_kept_zeros.ensures (wrote-then c.write_new_rows.ensures c.write_own_rows.ensures)))
