-- 01, Numbered faults: "judge-rows 1 to 5, 9 to 11, 14, 15, 17"; 02, wish 2: "18, in all five calls".
-- Judge-rows: the faults of the words, then 15, then whether the values keep every bound and satisfy every row and product.
use Rattle.std.specs.Prelude.{List, ℕ, ℤ}
use Rattle.integers.specs.Terms.{value}
use Rattle.words.specs.Variables.{variables}
use Rattle.words.specs.Refusal.{◌else_refuse◌, count_fault}
use Rattle.words.specs.Answer.{Answer, ◌else_answer◌}
use Rattle.words.specs.Judge.{judge}
use Rattle.rowsystems.specs.Row.{satisfied}
use Rattle.rowsystems.specs.Reading.{read_rows}
use Rattle.rowsystems.specs.RowSystem.{rows}

-- of accepted words and as many values as variables and auxiliaries
unfoldable pub judge_accepted : List ℕ → List ℤ → Answer
judge_accepted ws vs = judge (value vs) (variables ws) (satisfied (value vs)) (rows ws)

unfoldable pub judge_rows : List ℕ → List ℤ → Answer
judge_rows ws vs = (read_rows ws else_refuse count_fault ws vs) else_answer judge_accepted ws vs
