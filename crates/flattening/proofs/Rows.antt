-- From FlatZinc to the words of a model and to the rows of its row system, where the words have the system's variables and builtins.
use Rattle.std.proofs.Common.{◌≡◌, sym, ◌∙◌, List, map, ℕ, ◌+◌, ℤ, length}
use Rattle.words.specs.Variables.{variables}
use Rattle.models.specs.Model.{constraints, builtin}
use Rattle.rules.specs.Translation.{auxiliaries}
use Rattle.sharing.specs.SharedSolutions.{SatisfiesModel, SatisfiesRows, SharedSolutions}
use Rattle.sharing.specs.ExactlyOne.{ExactlyOne}
use Rattle.flatzinc.specs.System.{System, Solves, Carries}
use Rattle.flatzinc.proofs.Carried.{carries_as, carries_through}
use Rattle.flattening.proofs.Words.{by_words}

-- demand 3 with one list of auxiliary values is a carrying over
pub shared_carries : (ws system : List ℕ) → SharedSolutions ws system → ExactlyOne ws system →
    Carries (length (auxiliaries ws)) (SatisfiesModel ws) (SatisfiesRows system)
shared_carries ws system s one = record {
  same = s;
  only = λ vs xs ys e f r q. let o = one vs ((s vs).1 (xs, (e, r))) in o.1.1 ys (f, q) ∙ sym (o.1.1 xs (e, r));
}

module _ (k : ℕ) (P : List ℤ → Type 0) (S : System) (c : Carries k P (Solves S)) (ws : List ℕ) (e : variables ws ≡ S.bounds) (f : map builtin (constraints ws) ≡ S.builtins) where
  pub to_words : Carries k P (SatisfiesModel ws)
  to_words = carries_as k (λ vs. (λ p. p, λ p. p)) (by_words ws S.bounds S.builtins e f) c

  pub to_rows : (system : List ℕ) → SharedSolutions ws system → ExactlyOne ws system → Carries (k + length (auxiliaries ws)) P (SatisfiesRows system)
  to_rows system s one = carries_through k (length (auxiliaries ws)) to_words (shared_carries ws system s one)
