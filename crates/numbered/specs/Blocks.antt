-- The block of a constraint that is given by the number of a code and the words after its head, and what laying it wants.
use Rattle.std.specs.Prelude.{List, ℕ}
use Rattle.integers.specs.Bounds.{bounds_in}
use Rattle.integers.specs.declared.Bounds.{Bounds}
use Rattle.rules.specs.Block.{Block}
use Rattle.rules.specs.Translation.{block_of}
use Rattle.encodings.specs.Uses.{shared_by}
use Rattle.encodings.specs.declared.context.Context.{Context}
use Rattle.linearsums.specs.Sum.{Summed}
use Rattle.blocks.specs.Coded.{constraint_of, Narrow}

abbrev pub block_of_number : Context → ℕ → List ℕ → Block
block_of_number k code args = block_of (bounds_in k.domains.now) (shared_by k.uses.now) k.encoded.now (constraint_of code args)

-- fault 12 is not that of the constraint, and S is L and U where its rule has these
abbrev pub LayableNumber : Context → ℕ → List ℕ → Bounds → Type 0
LayableNumber k code args S = Narrow (bounds_in k.domains.now) k.uses.now code args × Summed (bounds_in k.domains.now) code args S
