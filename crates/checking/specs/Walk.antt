-- What check finds of one constraint.
use Rattle.std.specs.Prelude.{◌≡◌, Bool, ℕ, ◌+◌, ◌≤◌, length, Result, IfOk}
use Rattle.integers.specs.declared.Bounds.{Bounds}
use Rattle.words.specs.Faults.{number_of}
use Rattle.words.specs.declared.fault.Fault.{Fault}
use Rattle.models.specs.Model.{Constraint}
use Rattle.rules.specs.Block.{block_words}
use Rattle.rules.specs.Shared.{Encoded}
use Rattle.rules.specs.Translation.{block_of}
use Rattle.rules.specs.InRange.{block_fault}
use Rattle.laying.specs.Sizes.{block_size}
use Rattle.laying.specs.declared.Laid.{Laid}

-- what a constraint costs that has no fault
pub record CountsBlock (β : ℕ → Bounds) (s : ℕ → Bool) (first : ℕ) (e : Encoded) (c : Constraint) (r : Laid) : Type 0 where
  pub auxiliaries : r.auxiliaries ≡ length (block_of β s e c).auxiliaries
  pub rows : r.rows ≡ length (block_of β s e c).rows
  pub words : r.words ≡ length (block_words first (block_of β s e c))

-- its fault, or what it costs
pub record Costs (β : ℕ → Bounds) (s : ℕ → Bool) (first : ℕ) (e : Encoded) (c : Constraint) (r : Result Laid Fault) : Type 0 where
  pub fault : number_of r ≡ block_fault β s first e c
  pub counted : IfOk r (CountsBlock β s first e c)
  pub small : IfOk r (λ n. n.words + n.auxiliaries + n.rows ≤ block_size)
