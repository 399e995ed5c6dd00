-- The weights, of which there are few, stand at the front of the list.
use Rattle.std.proofs.Common.{◌≡◌, ap, ◌∙◌, ◌≤◌, arith, length, take}
use Rattle.bitforms.specs.Weights.{weights}
use Rattle.bitforms.proofs.Weights.{chosen-length}
use Rattle.bittables.proofs.Counting.{few-weights}
use Rattle.valuebits.proofs.Variables.{front-is}
use Rattle.valuebits.proofs.put_number.Goals.{After-list_weights-n}
use Rattle.valuebits.proofs.put_number.Goals as goal

front : (c : After-list_weights-n) → take c.list_weights-n.result c.list_weights-n.new.list ≡ weights c.args.width
front c = front-is c.list_weights-n.ensures (omega (arith, few-weights c.args.width c.requires.1))

few : (c : After-list_weights-n) → c.list_weights-n.result ≤ 62
few c = omega (arith, c.list_weights-n.ensures.ends, few-weights c.args.width c.requires.1)

pub slice_bounds-list-end : goal.slice_bounds-list-end
slice_bounds-list-end c = omega (arith, few (goal.at.slice_bounds-list-end c).After-list_weights-n)

pub slice_bounds-put_chosen-end : goal.slice_bounds-put_chosen-end
slice_bounds-put_chosen-end c = omega (arith, c.list_weights-n.ensures.ends, ap length (front (goal.at.slice_bounds-put_chosen-end c).After-list_weights-n))

pub overflow_add-result : goal.overflow_add-result
overflow_add-result c = omega (arith, few (goal.at.overflow_add-result c).After-list_weights-n, c.requires.0)

pub returns : goal.returns
returns c = record {
  laid = record {
    over = c.put_chosen.ensures ∙ rw (front (goal.at.returns c).After-list_weights-n);
    ends = omega (arith, c.list_weights-n.ensures.ends, chosen-length (weights c.args.width) c.args.x);
  };
  few = omega (arith, few (goal.at.returns c).After-list_weights-n);
}
