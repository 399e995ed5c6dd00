-- What an accepted model gives for a builtin, of values that keep the bounds: its integer variables keep theirs, its Boolean ones are 0 or 1.
use Rattle.std.proofs.Common.{ℕ}
use Rattle.integers.specs.Terms.{Valuation}
use Rattle.integers.specs.declared.Bounds.{Bounds}
use Rattle.integers.proofs.Bits.{Bit}
use Rattle.integers.proofs.Tests.{In, All}
use Rattle.models.specs.Builtin.{Builtin}
use Rattle.models.proofs.Arguments.{integer_arguments, boolean_arguments}

pub record Fits (β : ℕ → Bounds) (σ : Valuation) (b : Builtin) : Type 0 where
  pub kept : All (λ v. In (β v) (σ v)) (integer_arguments b)
  pub zero_one : All (λ v. Bit (σ v)) (boolean_arguments b)
