-- Reading and judging at once: where reading goes on, the values of the variables read so far, and what they make of a row.
use Rattle.std.specs.Prelude.{Bool, List, ℕ, ◌+◌, ◌<◌, ◌≤◌, eqb, ℤ, length, Result, Ok, Err}
use Rattle.std.specs.Int.Signed.{le_z}
use Rattle.integers.specs.Choice.{◌if◌else◌}
use Rattle.integers.specs.Number.{◌≟◌, +0}
use Rattle.integers.specs.Terms.{value}
use Rattle.words.specs.Kind as Kind
use Rattle.words.specs.Small.{Near}
use Rattle.words.specs.Word.{kind}
use Rattle.words.specs.declared.fault.Refusal.{Refusal}
use Rattle.words.specs.Check.{Step, step_of}
use Rattle.rowterms.specs.declared.Seen.{Seen}

-- where reading goes on
abbrev pub seen_step : Result Seen Refusal → Step
seen_step (Ok s) = step_of (Ok s.at)
seen_step (Err r) = step_of (Err r)

-- where reading goes on after the term at a place
abbrev pub term_step : ℕ → Result ℤ Refusal → Step
term_step place (Ok t) = step_of (Ok (place + 2))
term_step place (Err r) = step_of (Err r)

-- the values of the variables read so far are there, no farther from 0 than signed payloads are; no type carries it, as n grows with each variable read
abbrev pub ValuesKnown : List ℤ → ℕ → Type 0
ValuesKnown vs n = (n ≤ length vs) × ((x : ℕ) → x < n → Near (value vs x))

-- whether a row with this head is true whose terms and constant add up to a number
unfoldable pub is_true : ℕ → ℤ → Bool
is_true w total = le_z total +0 if eqb (kind w) Kind.at_most else (total ≟ +0)
