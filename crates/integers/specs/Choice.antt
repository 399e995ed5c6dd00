-- Choosing by a test: `3 if test else 0`.
use Rattle.std.specs.Prelude.{Bool, true, false}

infixr 1 ◌if◌else◌
module _ {ℓ} {A : Type ℓ} where
  abbrev pub ◌if◌else◌ : A → Bool → A → A
  ◌if◌else◌ a true b = a
  ◌if◌else◌ a false b = b
