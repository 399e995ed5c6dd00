-- 01, Numbered faults: "judge-model 1 to 11 and 15"; 02, wish 2: "18, in all five calls".
-- Judge-model: 1 to 11 and 18, then 15, then whether the values keep every bound and every builtin is true of them.
use Rattle.std.specs.Prelude.{List, ℕ, ℤ}
use Rattle.integers.specs.Terms.{value}
use Rattle.words.specs.Variables.{variables}
use Rattle.words.specs.Refusal.{◌else_refuse◌, count_fault}
use Rattle.words.specs.Answer.{Answer, ◌else_answer◌}
use Rattle.words.specs.Judge.{judge}
use Rattle.models.specs.Reading.{read_model}
use Rattle.models.specs.Model.{constraints, builtin}
use Rattle.models.specs.Meaning.{meaning}

-- of accepted words and as many values as variables
unfoldable pub judge_accepted : List ℕ → List ℤ → Answer
judge_accepted ws vs = judge (value vs) (variables ws) (λ c. meaning (value vs) (builtin c)) (constraints ws)

unfoldable pub judge_model : List ℕ → List ℤ → Answer
judge_model ws vs = (read_model ws else_refuse count_fault ws vs) else_answer judge_accepted ws vs
