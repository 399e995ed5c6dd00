-- The number of each fault. And what a check, a reading or a call answers, as documents 01 and 02 say it: by numbers, 0 for no fault.
use Rattle.std.specs.Prelude.{ℕ, Result, Ok, Err}
use Rattle.words.specs.Fault as Fault
use Rattle.words.specs.Answer.{Answer, refused, written, holds, out_of_bounds, is_false}
use Rattle.words.specs.Refusal.{◌at_place◌, accepted}
use Rattle.words.specs.Refusals.{Refusal}
use Rattle.words.specs.declared.fault.Fault.{Fault}
use Rattle.words.specs.declared.fault.Fault.TheVariants as f
use Rattle.words.specs.declared.fault.Refusal as error
use Rattle.words.specs.declared.answer.Verdict.{Verdict}
use Rattle.words.specs.declared.answer.Verdict.TheVariants.{Holds, OutOfBounds, False}

abbrev pub fault_number : Fault → ℕ
fault_number f.TooManyWords = Fault.too_many_words
fault_number f.WordsEnd = Fault.words_end
fault_number f.WrongKind = Fault.wrong_kind
fault_number f.UpperBelowLower = Fault.upper_below_lower
fault_number f.PayloadAboveZero = Fault.payload_above_zero
fault_number f.TooManyVariables = Fault.too_many_variables
fault_number f.TooManyConstraints = Fault.too_many_constraints
fault_number f.UnknownCode = Fault.unknown_code
fault_number f.LengthOutside = Fault.length_outside
fault_number f.NotDeclared = Fault.not_declared
fault_number f.WordAfterEnd = Fault.word_after_end
fault_number f.SetTooWide = Fault.set_too_wide
fault_number f.NumberOutside = Fault.number_outside
fault_number f.TooManyInAll = Fault.too_many_in_all
fault_number f.WrongValueCount = Fault.wrong_value_count
fault_number f.OutputTooShort = Fault.output_too_short
fault_number f.ResultNotAbove = Fault.result_not_above
fault_number f.LowestNumber = Fault.lowest_number
fault_number f.BreaksGrammar = Fault.breaks_grammar
fault_number f.WrongName = Fault.wrong_name
fault_number f.OutsideRange = Fault.outside_range
fault_number f.TooManyLists = Fault.too_many_lists
fault_number f.TooManyBits = Fault.too_many_bits
fault_number f.FormTooLarge = Fault.form_too_large
fault_number f.NotABit = Fault.not_a_bit
fault_number f.NoSuchVariable = Fault.no_such_variable

-- of a check
abbrev pub number_of : {A : Type 0} → Result A Fault → ℕ
number_of (Ok a) = Fault.none
number_of (Err e) = fault_number e

-- of a reading
abbrev pub refusal_of : {A : Type 0} → Result A error.Refusal → Refusal
refusal_of (Ok a) = accepted
refusal_of (Err r) = fault_number r.fault at_place r.place

-- of a call: the refusal, or what the call says else
abbrev pub answer_of : {A : Type 0} → (A → Answer) → Result A error.Refusal → Answer
answer_of said (Ok a) = said a
answer_of said (Err r) = refused (fault_number r.fault) r.place

-- how many words or bytes a call wrote, or solutions it listed
abbrev pub written_of : Result ℕ error.Refusal → Answer
written_of = answer_of written

-- of a judge
abbrev pub said_of : Verdict → Answer
said_of Holds = holds
said_of (OutOfBounds i) = out_of_bounds i
said_of (False i) = is_false i

abbrev pub verdict_of : Result Verdict error.Refusal → Answer
verdict_of = answer_of said_of
