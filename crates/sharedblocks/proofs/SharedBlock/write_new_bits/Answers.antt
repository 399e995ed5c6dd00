use Rattle.std.proofs.Common.{sym}
use Rattle.integers.specs.Bounds.{bounds_in}
use Rattle.models.specs.Model.{var}
use Rattle.laying.proofs.Written.{wrote-as}
use Rattle.sharedblocks.proofs.Blocks.{bound_parts-new_bits}
use Rattle.sharedblocks.proofs.SharedBlock.write_new_bits.Goals as goal

-- Their bounds, as many as there are.
pub returns : goal.returns
returns c = wrote-as (sym (bound_parts-new_bits (bounds_in c.args.self.now.domains.now) c.args.self.now.encoded.now (var c.args.self.now.args.now 0))) (rw c.new_bits.ensures.value at c.bits.ensures)
