-- The words of source variables, with the bounds that they declare, ordered and in the range: what models begin with, and what translate copies into row systems.
use Rattle.std.proofs.Common.{◌≡◌, true, List, [], ◌∷◌, ℕ}
use Rattle.integers.specs.Bounds.{◌to◌, bit}
use Rattle.integers.specs.declared.Bounds.{Bounds}
use Rattle.integers.proofs.Linear.{◌⊑◌}
use Rattle.words.specs.Kind as Kind
use Rattle.words.specs.Word.{kind, payload, signed, in_range}

pub record Ordered (B : Bounds) : Type 0 where
  pub rising : B.lower ⊑ B.upper
  pub lower_in : in_range B.lower ≡ true
  pub upper_in : in_range B.upper ≡ true

pub data Sources : List ℕ → List Bounds → Type 0 where
  none : Sources [] []
  integer : {l u : ℕ} {ws : List ℕ} {Bs : List Bounds} → kind l ≡ Kind.lower → kind u ≡ Kind.upper → Ordered (signed l to signed u) →
      Sources ws Bs → Sources (l ∷ u ∷ ws) ((signed l to signed u) ∷ Bs)
  boolean : {w : ℕ} {ws : List ℕ} {Bs : List Bounds} → kind w ≡ Kind.boolean → payload w ≡ 0 →
      Sources ws Bs → Sources (w ∷ ws) (bit ∷ Bs)
