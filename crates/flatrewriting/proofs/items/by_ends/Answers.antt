use Rattle.std.proofs.Common.{refl, ◌∙◌, to_z-of_z}
use Rattle.flatzinc.specs.Calls.{placed_all}
use Rattle.flatrewriting.specs.Arguments.{placed_given, at_given}
use Rattle.flatrewriting.specs.Rewritten.{rewritten}
use Rattle.flatrewriting.proofs.items.by_ends.Goals as goal

pub returns : goal.returns
unfolding placed_all rewritten placed_given at_given
returns c = c.in_ok-put_call-2.ensures ∙ rw (c.in_ok-put_call.ensures, c.new-calls.ensures.items, to_z-of_z c.ranges.lo, to_z-of_z c.ranges.hi) refl
