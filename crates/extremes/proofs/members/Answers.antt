use Rattle.std.proofs.Common.{◌≡◌, ◌∙◌, ◌-◌, ◌+◌, ◌≤◌, arith, nat_abs, w64, to_z, to_z-of_z}
use Rattle.integers.specs.Number.{◌⊕◌, +1}
use Rattle.integers.specs.Bounds.{◌to◌}
use Rattle.integers.proofs.Fits.{back}
use Rattle.words.specs.Limit as Limit
use Rattle.models.specs.Model.{nums}
use Rattle.arguments.proofs.Size.{read}
use Rattle.rules.specs.Parts.{least_from}
use Rattle.extremes.proofs.Rising.{begun, found, none_left, all_found, set-size, members-size}
use Rattle.extremes.proofs.members.Goals.{After-least_from-v}
use Rattle.extremes.proofs.members.Goals as goal

least : (c : After-least_from-v) → c.least_from-v.result ≡ least_from (nums c.args.args.now c.args.i) (to_z w64 c.loop-k.from-bits) (c.args.upper ⊕ +1)
least c =
    c.least_from-v.ensures ∙ rw (read c.plus-above.type_inv c.plus-above.ensures.value, to_z-of_z c.ranges.upper)

small : (c : After-least_from-v) → nat_abs c.least_from-v.result ≤ Limit.half + 1
small c = rw (least c) (set-size c.args.args.now c.args.i (to_z w64 c.loop-k.from-bits) c.args.upper c.requires.1)

pub loop-k-init : goal.loop-k-init
loop-k-init c =
    let e : c.size_at-n.result - 0 ≡ c.size_at-n.result = omega arith in
    rw (e, c.size_at-n.ensures.value, to_z-of_z c.ranges.lower, to_z-of_z c.ranges.upper) (begun c.args.args.now c.args.i (c.args.lower to c.args.upper) _)

pub returns-then-upper-v-clause-count : goal.returns-then-upper-v-clause-count
returns-then-upper-v-clause-count c =
    (none_left (c.size_at-n.result - c.loop-k.k) c.least_from-v.result (omega arith) (least (goal.at.returns-then-upper-v-clause-count c).After-least_from-v) (rw (back c.least_from-v.result c.least_from-v.type_inv, to_z-of_z c.ranges.upper) at c.if-upper-v.true) (rw (to_z-of_z c.ranges.lower, to_z-of_z c.ranges.upper) at c.loop-k.invariant)).0

pub returns-then-upper-v-clause-listed : goal.returns-then-upper-v-clause-listed
returns-then-upper-v-clause-listed c =
    (none_left (c.size_at-n.result - c.loop-k.k) c.least_from-v.result (omega arith) (least (goal.at.returns-then-upper-v-clause-listed c).After-least_from-v) (rw (back c.least_from-v.result c.least_from-v.type_inv, to_z-of_z c.ranges.upper) at c.if-upper-v.true) (rw (to_z-of_z c.ranges.lower, to_z-of_z c.ranges.upper) at c.loop-k.invariant)).1

pub plus-from-requires : goal.plus-from-requires
plus-from-requires c =
    rw (back c.least_from-v.result c.least_from-v.type_inv) (omega (arith, small (goal.at.plus-from-requires c).After-least_from-v))

pub loop-k-preserved : goal.loop-k-preserved
loop-k-preserved c =
    let e : c.size_at-n.result - (c.loop-k.k + 1) ≡ c.size_at-n.result - c.loop-k.k - 1 = omega arith in
    rw (e, to_z-of_z c.ranges.lower, to_z-of_z c.ranges.upper, c.put.ensures, read c.plus-from.type_inv c.plus-from.ensures.value, back c.least_from-v.result c.least_from-v.type_inv)
    (found (c.size_at-n.result - c.loop-k.k) c.least_from-v.result (omega arith) (least (goal.at.loop-k-preserved c).After-least_from-v) (rw (back c.least_from-v.result c.least_from-v.type_inv, to_z-of_z c.ranges.upper) at c.if-upper-v.false) (rw (to_z-of_z c.ranges.lower, to_z-of_z c.ranges.upper) at c.loop-k.invariant))

pub returns-clause-count : goal.returns-clause-count
returns-clause-count c =
    let e : c.size_at-n.result ≡ c.loop-k.k = omega (arith, c.loop-k-test.false) in
    e ∙ (all_found _ (omega arith) (rw (to_z-of_z c.ranges.lower, to_z-of_z c.ranges.upper) at c.loop-k.invariant)).0

pub returns-clause-listed : goal.returns-clause-listed
returns-clause-listed c = (all_found _ (omega arith) (rw (to_z-of_z c.ranges.lower, to_z-of_z c.ranges.upper) at c.loop-k.invariant)).1

pub returns-then-upper-v-clause-near : goal.returns-then-upper-v-clause-near
returns-then-upper-v-clause-near c k = members-size c.args.args.now c.args.i (c.args.lower to c.args.upper) c.requires.1 k

pub returns-clause-near : goal.returns-clause-near
returns-clause-near c k = members-size c.args.args.now c.args.i (c.args.lower to c.args.upper) c.requires.1 k
