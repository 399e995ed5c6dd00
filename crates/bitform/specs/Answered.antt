-- What each part of the call owes: the call's answer, and what the output holds afterwards. Of a form that is taken k times, with c added to its constant and
-- a number for each bit: the call bits takes it once and adds nothing.
use Rattle.std.specs.Prelude.{◌≡◌, Bool, List, ℕ, ◌+◌, ◌*◌, ◌≤◌, eqb, ℤ, length}
use Rattle.integers.specs.Choice.{◌if◌else◌}
use Rattle.words.specs.Limit as Limit
use Rattle.words.specs.Fault as Fault
use Rattle.words.specs.Answer.{Answer, written, ◌else_answer◌}
use Rattle.words.specs.Overlay.{overlay}
use Rattle.words.specs.Refusal.{accepted}
use Rattle.rowsystems.specs.Reading.{read_rows}
use Rattle.bitforms.specs.BitForm.{bit_rows_of, bit_count}
use Rattle.bitforms.specs.FormAnswer.{all_fit, bit_form, bit_formed}
use Rattle.bitforms.specs.Taken.{taken_constant, taken_entries, taken_words, taken_fault}
use Rattle.bittables.specs.Systems.{rows_of_system}
use Rattle.bittables.specs.declared.table.BitSystem.{BitSystem}
use Rattle.bittaking.specs.declared.Taken.{Taken}
use Rattle.bitwriting.specs.Lined.{added_of}

pub record Answered (ws before after : List ℕ) (answer : Answer) : Type 0 where
  pub says : answer ≡ bit_form ws (length before)
  pub holds : after ≡ bit_formed ws before

-- of words with no fault before 24
pub record AnsweredTaken (ws : List ℕ) (k c : ℤ) (a : ℕ → ℤ) (before after : List ℕ) (answer : Answer) : Type 0 where
  pub says : answer ≡ (taken_fault ws k c a (length before) else_answer written (length (taken_words ws k c a)))
  pub holds : after ≡ (overlay before 0 (taken_words ws k c a) if eqb (taken_fault ws k c a (length before)).number Fault.none else before)

abbrev pub AnsweredBy : List ℕ → Taken → List ℕ → List ℕ → Answer → Type 0
AnsweredBy ws t before after answer = AnsweredTaken ws t.times t.constant (added_of t) before after answer

-- the constant, whether all fits, and the words
abbrev pub constant_by : List ℕ → Taken → ℤ
constant_by ws t = taken_constant ws t.times t.constant

abbrev pub fits_by : List ℕ → Taken → Bool
fits_by ws t = all_fit ws (constant_by ws t) (taken_entries ws t.times (added_of t))

abbrev pub words_by : List ℕ → Taken → List ℕ
words_by ws t = taken_words ws t.times t.constant (added_of t)

-- of accepted words: the row system over bits, and the number of bits
pub record BitsListed (s : BitSystem) (n : ℕ) : Type 0 where
  pub read : read_rows s.words.now ≡ accepted
  pub rows_are : rows_of_system s ≡ bit_rows_of s.words.now
  pub count : n ≡ bit_count s.words.now
  pub few : n ≤ Limit.bits

-- room for the words of every form of n bits: a constant, three words for each of n × (n + 1) / 2 entries, and the end
abbrev pub RoomFor : ℕ → ℕ → Type 0
RoomFor n room = 3 * (n * (n + 1)) + 4 ≤ 2 * room + 1
