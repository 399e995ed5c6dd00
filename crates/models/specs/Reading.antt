-- 01, Numbered faults; 02, wish 2. Reading a model: faults 1 to 11 and 18, the leftmost faulty word, at one word by list order, 18 directly after 3.
use Rattle.std.specs.Prelude.{not, ◌||◌, List, [], ◌∷◌, ◌++◌, ℕ, ◌+◌, ◌-◌, ltb, leb, eqb, length, get_or}
use Rattle.std.specs.Int.Signed.{lt_z}
use Rattle.integers.specs.Choice.{◌if◌else◌}
use Rattle.integers.specs.declared.Bounds.{Bounds}
use Rattle.words.specs.Word.{kind, payload, signed, too_low}
use Rattle.words.specs.Kind as Kind
use Rattle.words.specs.Limit as Limit
use Rattle.words.specs.Check.{fault_number_in}
use Rattle.words.specs.Fault as Fault
use Rattle.words.specs.Refusal.{◌at_place◌, first_fault}
use Rattle.words.specs.Refusals.{Refusal}
use Rattle.models.specs.Table as Table
use Rattle.models.specs.Shape as Shape
use Rattle.models.specs.Shape.{is_variable, is_one_word, argument}
use Rattle.models.specs.declared.Due.{Due}
use Rattle.models.specs.declared.Due.TheVariants.{Start, Upper, Arguments, Ended}

-- What was read so far: what is due at the next word, the types of the variables and the number of constraints before it.
pub record State : Type 0 where
  pub due : Due
  pub types : List ℕ
  pub constraints : ℕ

-- ---- The fault of a word, 0 for none. Where two hold, the lower number stands first, and 18 directly after 3.

-- where a constraint or the end may stand, after c constraints: 3, 5, 7, 8
unfoldable pub fault_head : ℕ → ℕ → ℕ
fault_head c w =
    (Fault.too_many_constraints if leb Limit.constraints c
    else Fault.unknown_code if eqb (payload w) 0 || ltb Table.last (payload w)
    else Fault.none) if eqb (kind w) Kind.constraint
    else (Fault.payload_above_zero if ltb 0 (payload w) else Fault.none) if eqb (kind w) Kind.model_end
    else Fault.wrong_kind

-- of a word that is to name a variable of type `type`; t is the type of the one it names, none where that is not declared: 3, 10
unfoldable pub fault_variable : ℕ → ℕ → ℕ → ℕ
fault_variable t type w =
    Fault.wrong_kind if not (eqb (kind w) Kind.variable)
    else Fault.not_declared if not (eqb t type)
    else Fault.none

-- in a range of numbers, outside which a signed payload has fault 18, "checked directly after 3"
module _ (range : Bounds) where
  -- where a variable may stand too, after v variables: 18, 5, 6
  unfoldable pub fault_start_in : ℕ → ℕ → ℕ → ℕ
  fault_start_in v c w =
      (Fault.lowest_number if too_low range w
      else Fault.too_many_variables if leb Limit.variables v
      else Fault.none) if eqb (kind w) Kind.lower
      else (Fault.payload_above_zero if ltb 0 (payload w)
      else Fault.too_many_variables if leb Limit.variables v
      else Fault.none) if eqb (kind w) Kind.boolean
      else fault_head c w

  -- of an upper bound after the word of its lower one: 3, 18, 4
  unfoldable pub fault_upper_in : ℕ → ℕ → ℕ
  fault_upper_in lower w =
      Fault.wrong_kind if not (eqb (kind w) Kind.upper)
      else Fault.lowest_number if too_low range w
      else Fault.upper_below_lower if lt_z (signed w) (signed lower)
      else Fault.none

  -- of a list's length and of an exponent, the most that it may be given: 3, 18, 9
  unfoldable pub fault_count_in : ℕ → ℕ → ℕ
  fault_count_in most w =
      Fault.wrong_kind if not (eqb (kind w) Kind.number)
      else Fault.lowest_number if too_low range w
      else Fault.length_outside if ltb most (payload w)
      else Fault.none

  -- of the word at an argument; after the last one, where a constraint or the end may stand
  unfoldable pub fault_argument_in : ℕ → ℕ → ℕ → ℕ → ℕ
  fault_argument_in t c arg w =
      fault_head c w if eqb arg Shape.none
      else fault_variable t arg w if is_variable arg
      else fault_number_in range w if eqb arg Shape.number
      else fault_count_in Limit.exponent w if eqb arg Shape.exponent
      else fault_count_in Limit.list_length w

  -- by what is due: v variables and c constraints stand before, and t is the type of the variable that the word names
  unfoldable pub fault_due_in : Due → ℕ → ℕ → ℕ → ℕ → ℕ
  fault_due_in Start v t c w = fault_start_in v c w
  fault_due_in (Upper lower) v t c w = fault_upper_in lower w
  fault_due_in (Arguments numbers variables type code k) v t c w =
      fault_number_in range w if ltb 0 numbers
      else fault_variable t type w if ltb 0 variables
      else fault_argument_in t c (argument code k) w
  fault_due_in Ended v t c w = Fault.word_after_end

  unfoldable pub fault_in : State → ℕ → List ℕ → ℕ
  fault_in s w ws = fault_due_in s.due (length s.types) (get_or s.types (payload w) Shape.none) s.constraints w

-- ---- What is due after a word without a fault

unfoldable pub after_head : ℕ → Due
after_head w = Arguments 0 0 0 (payload w) 0 if eqb (kind w) Kind.constraint else Ended

-- after the word at an argument; k is the place of the next argument
unfoldable pub after_argument : ℕ → ℕ → ℕ → ℕ → Due
after_argument arg code k w =
    Arguments 0 0 0 code k if is_one_word arg
    else Arguments (payload w) 0 0 code k if eqb arg Shape.numbers
    else Arguments 0 (payload w) Shape.integer code k if eqb arg Shape.integers
    else Arguments 0 (payload w) Shape.boolean code k if eqb arg Shape.booleans
    else Arguments (payload w) (payload w) Shape.integer code k

unfoldable pub after_due : Due → ℕ → Due
after_due Start w = Upper w if eqb (kind w) Kind.lower else Start if eqb (kind w) Kind.boolean else after_head w
after_due (Upper lower) w = Start
after_due (Arguments numbers variables type code k) w =
    Arguments (numbers - 1) variables type code k if ltb 0 numbers
    else Arguments 0 (variables - 1) type code k if ltb 0 variables
    else after_head w if eqb (argument code k) Shape.none
    else after_argument (argument code k) code (k + 1) w
after_due Ended w = Ended

-- the type of the variable that a word starts, as a list of one or none; the number of constraints that a word starts
unfoldable pub declared : ℕ → List ℕ
declared w = Shape.integer ∷ [] if eqb (kind w) Kind.lower else Shape.boolean ∷ [] if eqb (kind w) Kind.boolean else []

unfoldable pub started : ℕ → ℕ
started w = 1 if eqb (kind w) Kind.constraint else 0

unfoldable pub after : State → ℕ → State
after s w = record { due = after_due s.due w; types = s.types ++ declared w; constraints = s.constraints + started w }

-- ---- The whole

-- 2: "The words end too early; place their number."
unfoldable pub fault_end : Due → ℕ
fault_end Start = Fault.words_end
fault_end (Upper lower) = Fault.words_end
fault_end (Arguments numbers variables type code k) = Fault.words_end
fault_end Ended = Fault.none

unfoldable pub ended : State → ℕ
ended s = fault_end s.due

abbrev pub begin : State
begin = record { due = Start; types = []; constraints = 0 }

-- 1 first: "More than 8,192 model words"
unfoldable pub read_model_in : Bounds → List ℕ → Refusal
read_model_in range ws =
    let rest = first_fault (fault_in range) after ended begin 0 ws in
    Fault.too_many_words at_place 0 if ltb Limit.model_words (length ws) else rest

-- ---- In the range of 02

abbrev pub read_model : List ℕ → Refusal
read_model = read_model_in Limit.range
