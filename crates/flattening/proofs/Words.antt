-- Words whose variables and builtins are those of a system are satisfied by its solutions.
use Rattle.std.proofs.Common.{◌≡◌, sym, ◌∙◌, subst, ◌↔◌, List, map, ℕ, ℤ}
use Rattle.integers.specs.Terms.{value}
use Rattle.integers.proofs.Places.{all_map}
use Rattle.integers.specs.declared.Bounds.{Bounds}
use Rattle.words.specs.Variables.{variables}
use Rattle.models.specs.Builtin.{Builtin}
use Rattle.models.specs.Meaning.{meaning}
use Rattle.models.specs.Model.{constraints, builtin}
use Rattle.sharing.specs.SharedSolutions.{SatisfiesModel}
use Rattle.flatzinc.specs.System.{System, Solves}

-- what the reader of words finds in them
abbrev pub SystemOf : List ℕ → System
SystemOf ws = record { bounds = variables ws; builtins = map builtin (constraints ws) }

pub of_words : (ws : List ℕ) (vs : List ℤ) → SatisfiesModel ws vs ↔ Solves (SystemOf ws) vs
of_words ws vs = (
  λ s. record { one_each = s.one_each; in_bounds = s.in_bounds; all_true = all_map (meaning (value vs)) builtin (constraints ws) ∙ s.all_true },
  λ s. record { one_each = s.one_each; in_bounds = s.in_bounds; all_true = sym (all_map (meaning (value vs)) builtin (constraints ws)) ∙ s.all_true },
)

pub by_words : (ws : List ℕ) (Bs : List Bounds) (bs : List Builtin) → variables ws ≡ Bs → map builtin (constraints ws) ≡ bs → (vs : List ℤ) →
    Solves (record { bounds = Bs; builtins = bs }) vs ↔ SatisfiesModel ws vs
by_words ws Bs bs e f vs =
    let w = of_words ws vs in
    subst (λ (Cs : List Bounds). Solves (record { bounds = Cs; builtins = bs }) vs ↔ SatisfiesModel ws vs) e
    (subst (λ (cs : List Builtin). Solves (record { bounds = variables ws; builtins = cs }) vs ↔ SatisfiesModel ws vs) f (w.1, w.0))
