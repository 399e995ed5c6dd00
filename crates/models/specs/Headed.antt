-- The constraint whose head stands at a place, by its code and the words after the head; none where the head's number is no builtin's code.
use Rattle.std.specs.Prelude.{◌≡◌, List, ℕ, ◌+◌, drop, Option, MatchOption}
use Rattle.words.specs.Word.{payload, word_at}
use Rattle.models.specs.Codes.{code_number}
use Rattle.models.specs.declared.code.Code.{Code}
use Rattle.models.specs.declared.constraint.Constraint.{Constraint}

abbrev pub Headed : List ℕ → ℕ → Option Constraint → Type 0
Headed ws at r =
    let n = payload (word_at ws at) in
    MatchOption r ((c : Code) → code_number c ≡ n → ⊥) (λ c. (code_number c.code ≡ n) × (c.args.now ≡ drop (at + 1) ws))
