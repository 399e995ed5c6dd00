-- The loop's invariant: judging the rest from here gives what judging the whole gives, and the variables before the place are counted.
use Rattle.variables.proofs.Counted.{VariablesBefore}
use Rattle.variables.proofs.Walk.{Kept}
use Rattle.variables.proofs.first_out_of_bounds.Given as goal

abbrev pub invariant-loop-at : goal.invariant-loop-at
invariant-loop-at l = Kept l.ws l.values l.x l.at × VariablesBefore l.ws l.x l.at
