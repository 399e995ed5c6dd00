-- 01, Five calls, and 02: what the calls answer, but for reason, whose answers have a type of their own.
-- For each enum of the code a definition of its crate gives the answer of each of its cases.
use Rattle.std.specs.Prelude.{Bool, true, false, ℕ, zero, suc}
use Rattle.words.specs.Refusals.{Refusal}

pub data Answer : Type 0 where
  -- a fault of Numbered faults, and its place
  refused : (number place : ℕ) → Answer
  -- "Check answers variables, constraints, auxiliaries, rows and words needed; products count as rows throughout."
  counts : (variables constraints auxiliaries rows words : ℕ) → Answer
  -- how many words translate, text and bits wrote, values fill wrote, bytes sheet wrote, solutions were listed
  written : ℕ → Answer
  -- "answer "holds", else the first variable out of bounds, else the first false constraint or row, counted from 0"
  holds : Answer
  out_of_bounds : ℕ → Answer
  is_false : ℕ → Answer

-- the refusal, or where there is none what comes after
abbrev pub refused_or : ℕ → ℕ → Answer → Answer
refused_or zero p after = after
refused_or (suc n) p after = refused (suc n) p

infixr 2 ◌else_answer◌
unfoldable pub ◌else_answer◌ : Refusal → Answer → Answer
r else_answer after = refused_or r.number r.place after

-- "the refusal number, 0 if accepted"
unfoldable pub refusal_number : Answer → ℕ
refusal_number (refused n p) = n
refusal_number (counts v c a r w) = 0
refusal_number (written n) = 0
refusal_number holds = 0
refusal_number (out_of_bounds i) = 0
refusal_number (is_false i) = 0

unfoldable pub is_holds : Answer → Bool
is_holds (refused n p) = false
is_holds (counts v c a r w) = false
is_holds (written n) = false
is_holds holds = true
is_holds (out_of_bounds i) = false
is_holds (is_false i) = false
