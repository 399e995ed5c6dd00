-- Demand 3, its second half, for a candidate: of a pair with D0000000, fill hands over every list that satisfies the candidate's model.
use Rattle.std.specs.Prelude.{◌≡◌, List, ℕ, ℤ}
use Rattle.words.specs.Answer.{Answer}
use Rattle.words.specs.Refusal.{accepted}
use Rattle.filling.specs.HandsOver.{HandsOver}
use Rattle.pairs.specs.Pair.{model_of, pair_fault}

abbrev pub PairHandsOver : ℕ → List ℕ → List ℤ → Answer → List ℤ → List ℤ → Type 0
PairHandsOver candidate ws vs answer before after = pair_fault ws ≡ accepted → HandsOver (model_of candidate ws) vs answer before after
