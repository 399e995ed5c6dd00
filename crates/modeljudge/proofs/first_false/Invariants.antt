-- The loop's invariant: judging the constraints from the k-th on gives what judging all gives.
use Rattle.std.proofs.Common.{drop}
use Rattle.integers.specs.Terms.{value}
use Rattle.words.proofs.Judge.{Passed}
use Rattle.models.specs.Meaning.{meaning}
use Rattle.models.specs.Model.{builtin, constraints}
use Rattle.modeljudge.proofs.first_false.Given as goal

abbrev pub invariant-loop-k : goal.invariant-loop-k
invariant-loop-k l = Passed (λ c. meaning (value l.values) (builtin c)) (constraints l.ws) l.k l.k (drop l.k (constraints l.ws))
