-- A refusal, as documents 01 and 02 number it: the number of a fault, 0 for no fault, and its place.
use Rattle.std.specs.Prelude.{ℕ}

pub record Refusal : Type 0 where
  pub number : ℕ
  pub place : ℕ
