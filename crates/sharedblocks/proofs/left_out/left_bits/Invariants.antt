-- Each turn writes one term, or none.
use Rattle.models.specs.Codes.{code_number}
use Rattle.laying.proofs.Written.{Writing}
use Rattle.sharedblocks.specs.LeftOut.{left_at}
use Rattle.sharedblocks.proofs.left_out.left_bits.Given as goal

abbrev pub invariant-loop-k : goal.invariant-loop-k
invariant-loop-k l = Writing (left_at (code_number l.code) l.args l.from l.v) l.initial.writer l.writer l.k
