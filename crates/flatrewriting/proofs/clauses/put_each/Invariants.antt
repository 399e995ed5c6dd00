use Rattle.std.proofs.Common.{◌≡◌, drop}
use Rattle.flatzinc.specs.Calls.{placed_all}
use Rattle.flatrewriting.specs.Made.{and_more}
use Rattle.flatrewriting.specs.Rewritten.{each_clause}
use Rattle.flatrewriting.proofs.clauses.put_each.Given as goal

abbrev pub invariant-loop-atom : goal.invariant-loop-atom
invariant-loop-atom l = and_more (placed_all l.calls.items) (each_clause l.fn.conclusion (drop l.atom-index l.atoms)) ≡ and_more (placed_all l.fn.calls.items) (each_clause l.fn.conclusion l.atoms)
