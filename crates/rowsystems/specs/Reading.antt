-- 01, Numbered faults; 02, wish 2. Reading a row system: faults 1 to 5, 9 to 11, 14, 17, 18, the leftmost faulty word, at one word by list order, 18 directly after 3.
use Rattle.std.specs.Prelude.{Bool, not, ◌&&◌, ◌||◌, List, ℕ, ◌+◌, ◌-◌, ltb, leb, eqb, length}
use Rattle.std.specs.Int.Signed.{lt_z}
use Rattle.integers.specs.Choice.{◌if◌else◌}
use Rattle.words.specs.Word.{kind, payload, signed, too_low, word_at}
use Rattle.words.specs.Kind as Kind
use Rattle.words.specs.Limit as Limit
use Rattle.words.specs.Check.{fault_number_in}
use Rattle.words.specs.Fault as Fault
use Rattle.words.specs.Variables.{starts_pair}
use Rattle.words.specs.Refusal.{◌at_place◌, first_fault}
use Rattle.words.specs.Refusals.{Refusal}
use Rattle.rowsystems.specs.declared.Due.{Due}
use Rattle.rowsystems.specs.declared.Due.TheVariants.{Source, SourceUpper, Item, AuxiliaryUpper, Terms, Coefficient, Result, FirstFactor, SecondFactor, Ended}

-- What was read so far: what is due at the next word, and the number of variables, auxiliaries among them, before it.
pub record State : Type 0 where
  pub due : Due
  pub variables : ℕ

-- ---- The fault of a word, 0 for none. Where two hold, the lower number stands first, and 18 directly after 3.

-- of a lower bound after n variables: 18, 14
unfoldable pub fault_lower : ℕ → ℕ → ℕ
fault_lower n w =
    Fault.lowest_number if too_low Limit.range w
    else Fault.too_many_in_all if leb Limit.in_all n
    else Fault.none

-- where an auxiliary, a row, a product or the end may stand, after n variables: 3, 18, 5, 9, 14
unfoldable pub fault_item : ℕ → ℕ → ℕ
fault_item n w =
    fault_lower n w if eqb (kind w) Kind.auxiliary_lower
    else (Fault.length_outside if ltb Limit.terms (payload w) else Fault.none) if eqb (kind w) Kind.at_most || eqb (kind w) Kind.equal
    else (Fault.payload_above_zero if ltb 0 (payload w) else Fault.none) if eqb (kind w) Kind.product || eqb (kind w) Kind.rows_end
    else Fault.wrong_kind

-- where a source variable may stand too: 18, 5, 14
unfoldable pub fault_source : ℕ → ℕ → ℕ
fault_source n w =
    fault_lower n w if eqb (kind w) Kind.lower
    else (Fault.payload_above_zero if ltb 0 (payload w)
    else Fault.too_many_in_all if leb Limit.in_all n
    else Fault.none) if eqb (kind w) Kind.boolean
    else fault_item n w

-- of an upper bound, whose kind is k, after the word of its lower one: 3, 18, 4
unfoldable pub fault_upper : ℕ → ℕ → ℕ → ℕ
fault_upper k lower w =
    Fault.wrong_kind if not (eqb (kind w) k)
    else Fault.lowest_number if too_low Limit.range w
    else Fault.upper_below_lower if lt_z (signed w) (signed lower)
    else Fault.none

-- of a variable: 3, 10
unfoldable pub fault_variable : ℕ → ℕ → ℕ
fault_variable n w =
    Fault.wrong_kind if not (eqb (kind w) Kind.variable)
    else Fault.not_declared if leb n (payload w)
    else Fault.none

-- 17: "A product's result number is not above both factors'; .. judged only if both factor words have kind 5."
unfoldable pub not_above : ℕ → ℕ → ℕ → Bool
not_above r f g =
    eqb (kind f) Kind.variable && eqb (kind g) Kind.variable
    && (leb (payload r) (payload f) || leb (payload r) (payload g))

-- of a product's result before its two factors: 3, 10, 17
unfoldable pub fault_result : ℕ → ℕ → ℕ → ℕ → ℕ
fault_result n w f g =
    Fault.wrong_kind if not (eqb (kind w) Kind.variable)
    else Fault.not_declared if leb n (payload w)
    else Fault.result_not_above if not_above w f g
    else Fault.none

-- by what is due, after n variables and before the words ws; no word past the last one has kind 5
unfoldable pub fault_due : Due → ℕ → ℕ → List ℕ → ℕ
fault_due Source n w ws = fault_source n w
fault_due (SourceUpper lower) n w ws = fault_upper Kind.upper lower w
fault_due Item n w ws = fault_item n w
fault_due (AuxiliaryUpper lower) n w ws = fault_upper Kind.auxiliary_upper lower w
fault_due (Terms left) n w ws = fault_variable n w if ltb 0 left else fault_number_in Limit.range w
fault_due (Coefficient left) n w ws = fault_number_in Limit.range w
fault_due Result n w ws = fault_result n w (word_at ws 0) (word_at ws 1)
fault_due FirstFactor n w ws = fault_variable n w
fault_due SecondFactor n w ws = fault_variable n w
fault_due Ended n w ws = Fault.word_after_end

unfoldable pub fault : State → ℕ → List ℕ → ℕ
fault s w ws = fault_due s.due s.variables w ws

-- ---- What is due after a word without a fault

unfoldable pub after_item : ℕ → Due
after_item w =
    AuxiliaryUpper w if eqb (kind w) Kind.auxiliary_lower
    else Result if eqb (kind w) Kind.product
    else Ended if eqb (kind w) Kind.rows_end
    else Terms (payload w)

unfoldable pub after_due : Due → ℕ → Due
after_due Source w = SourceUpper w if eqb (kind w) Kind.lower else Source if eqb (kind w) Kind.boolean else after_item w
after_due (SourceUpper lower) w = Source
after_due Item w = after_item w
after_due (AuxiliaryUpper lower) w = Item
after_due (Terms left) w = Coefficient (left - 1) if ltb 0 left else Item
after_due (Coefficient left) w = Terms left
after_due Result w = FirstFactor
after_due FirstFactor w = SecondFactor
after_due SecondFactor w = Item
after_due Ended w = Ended

-- a variable starts at a word of kind 1, 3 or 8
unfoldable pub started : ℕ → ℕ
started w = 1 if starts_pair w || eqb (kind w) Kind.boolean else 0

unfoldable pub after : State → ℕ → State
after s w = record { due = after_due s.due w; variables = s.variables + started w }

-- ---- The whole

-- 2: "The words end too early; place their number."
unfoldable pub fault_end : Due → ℕ
fault_end Source = Fault.words_end
fault_end (SourceUpper lower) = Fault.words_end
fault_end Item = Fault.words_end
fault_end (AuxiliaryUpper lower) = Fault.words_end
fault_end (Terms left) = Fault.words_end
fault_end (Coefficient left) = Fault.words_end
fault_end Result = Fault.words_end
fault_end FirstFactor = Fault.words_end
fault_end SecondFactor = Fault.words_end
fault_end Ended = Fault.none

unfoldable pub ended : State → ℕ
ended s = fault_end s.due

abbrev pub begin : State
begin = record { due = Source; variables = 0 }

-- 1 first: "More than .. row words"
unfoldable pub read_rows : List ℕ → Refusal
read_rows ws =
    let rest = first_fault fault after ended begin 0 ws in
    Fault.too_many_words at_place 0 if ltb Limit.row_words (length ws) else rest
