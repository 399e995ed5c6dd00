use Rattle.std.proofs.Common.{◌≡◌, refl, arith, to_z-of_z}
use mathlib.Core.List.{flat_map}
use Rattle.words.specs.Overlay.{overlay}
use Rattle.laying.specs.Part.{words_in}
use Rattle.laying.specs.Lists.{many}
use Rattle.laying.proofs.Counts.{same_more}
use Rattle.laying.proofs.terms.put_same.Goals as goal

pub loop-k-init : goal.loop-k-init
unfolding many words_in flat_map overlay
loop-k-init c = refl

pub loop-k-preserved : goal.loop-k-preserved
loop-k-preserved c = rw (c.loop-k.invariant, c.bits.ensures, c.new.ensures, c.bits-number.ensures, c.of_number.ensures, to_z-of_z c.ranges.c) (same_more _ _ _ _ _)

pub returns : goal.returns
returns c = let e : c.loop-k.k ≡ c.args.n = omega (arith, c.loop-k-test.false) in rw (e, to_z-of_z c.ranges.c) at c.loop-k.invariant
