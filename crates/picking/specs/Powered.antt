-- What is written of the products of a power.
use Rattle.std.specs.Prelude.{◌≡◌, ℕ, ◌+◌, ◌≤◌, ℤ}
use Rattle.words.specs.Small.{Near}
use Rattle.rules.specs.Power.{Values}
use Rattle.picking.specs.Output.{Puts}
use Rattle.picking.specs.declared.Output.{Output}

-- all products so far, at most so many, and the power, near 0
pub record PowersPut (before after : Output) (power : ℤ) (v : Values) (most : ℕ) : Type 0 where
  pub picked : Puts before v.picked after
  pub held : power ≡ v.held
  pub near : Near power
  pub few : after.at ≤ before.at + most
