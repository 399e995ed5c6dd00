-- Two pairs that differ at most in what the other candidate wrote. Whatever one candidate writes, with faults or without, changes nothing that the other gets, limits
-- included, where the first candidate's words are none, or begin with a constraint's head and have no D0000000 among them.
use Rattle.std.specs.Prelude.{◌≡◌, false, List, [], ◌∷◌, ◌++◌, ℕ}
use Rattle.integers.specs.Lists.{any}
use Rattle.words.specs.Word.{kind}
use Rattle.words.specs.Kind as Kind
use Rattle.pairs.specs.Pair.{separator, separates, ends_table}

-- the words of a table: none ends it
abbrev pub Table : List ℕ → Type 0
Table T = any ends_table T ≡ false

pub data FirstWords : List ℕ → Type 0 where
  none : FirstWords []
  begins : (w : ℕ) (F : List ℕ) → kind w ≡ Kind.constraint → any separates (w ∷ F) ≡ false → FirstWords (w ∷ F)

-- what the second writes changes nothing for the first, whatever stands before D0000000
pub data OtherWrote (candidate : ℕ) : List ℕ → List ℕ → Type 0 where
  the_second : candidate ≡ 1 → (ws S S' : List ℕ) → OtherWrote candidate (ws ++ (separator ∷ S)) (ws ++ (separator ∷ S'))
  the_first : (candidate ≡ 1 → ⊥) → (T F F' S : List ℕ) → Table T → FirstWords F → FirstWords F' →
      OtherWrote candidate (T ++ (F ++ (separator ∷ S))) (T ++ (F' ++ (separator ∷ S)))
