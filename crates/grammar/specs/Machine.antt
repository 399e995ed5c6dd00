-- How the code has the arguments, what is due and what a token gives, and numbers capped above the range.
use Rattle.std.specs.Prelude.{Bool, true, false, ◌≡◌, List, [], ℕ, ◌-◌, eqb, leb, ◌<◌, Option, None, Some, IfSome, Result, MatchResult}
use Prim.Native.Char.{code}
use Rattle.integers.specs.Choice.{◌if◌else◌}
use Rattle.words.specs.Limit as Limit
use Rattle.words.specs.Fault as Fault
use Rattle.words.specs.Faults.{fault_number}
use Rattle.words.specs.declared.fault.Fault.{Fault}
use Rattle.words.specs.declared.fault.Refusal as error
use Rattle.models.specs.Codes.{code_number}
use Rattle.tokens.specs.Token as Token
use Rattle.tokens.specs.Token.{tokens}
use Rattle.tokens.specs.Sorts.{sort_number}
use Rattle.tokens.specs.Unread.{unread, spanned}
use Rattle.tokens.specs.declared.Span.{Span}
use Rattle.tokens.specs.declared.sort.Sort.{Sort}
use Rattle.grammar.specs.Brackets.{fits_inside}
use Rattle.grammar.specs.Form as Form
use Rattle.grammar.specs.Form.{Missing, One, Many}
use Rattle.grammar.specs.Grammar as Grammar
use Rattle.grammar.specs.Grammar.{TokenStep, declaration_stage, constraint_stage, end_stage}
use Rattle.grammar.specs.declared.form.Bracketed.{Bracketed}
use Rattle.grammar.specs.declared.form.Bracketed.TheVariants as b
use Rattle.grammar.specs.declared.form.Form.{Form}
use Rattle.grammar.specs.declared.form.Form.TheVariants as f
use Rattle.grammar.specs.declared.due.Stage.{Stage}
use Rattle.grammar.specs.declared.due.Stage.TheVariants as g
use Rattle.grammar.specs.declared.due.Due.{Due}
use Rattle.grammar.specs.declared.due.Due.TheVariants as d
use Rattle.grammar.specs.declared.due.ListPlace.{ListPlace}
use Rattle.grammar.specs.declared.due.Step.{Step}
use Rattle.grammar.specs.declared.due.Step.TheVariants as s
use Rattle.grammar.specs.declared.due.Inside.{Inside}
use Rattle.grammar.specs.declared.due.Inside.TheVariants as i

-- the brackets of a list or set, and the sort of its elements
abbrev pub opening_of : Bracketed → ℕ
opening_of b.Numbers = code "["
opening_of b.Variables = code "["
opening_of b.Set = code "{"
opening_of b.Parallel = code "["

abbrev pub element_of : Bracketed → ℕ
element_of b.Numbers = Token.number
element_of b.Variables = Token.name
element_of b.Set = Token.number
element_of b.Parallel = Token.name

abbrev pub closing_of : Bracketed → ℕ
closing_of b.Numbers = code "]"
closing_of b.Variables = code "]"
closing_of b.Set = code "}"
closing_of b.Parallel = code "]"

abbrev pub is_second : Bracketed → Bool
is_second b.Numbers = false
is_second b.Variables = false
is_second b.Set = false
is_second b.Parallel = true

-- an argument
abbrev pub text_form : Form → Form.Form
text_form f.Variable = One Token.name
text_form f.Number = One Token.number
text_form (f.Bracketed l) = Many (opening_of l) (element_of l) (closing_of l) (is_second l)

abbrev pub form_or_missing : Option Form → Form.Form
form_or_missing None = Missing
form_or_missing (Some f) = text_form f

-- which items may still come
abbrev pub stage_number : Stage → ℕ
stage_number g.Declarations = declaration_stage
stage_number g.Constraints = constraint_stage
stage_number g.Ended = end_stage

-- what is due
abbrev pub due_of : Due → Grammar.Due
due_of (d.Item stage) = Grammar.Item (stage_number stage)
due_of d.Domain = Grammar.Domain
due_of d.Dots = Grammar.Dots
due_of d.Upper = Grammar.Upper
due_of d.Colon = Grammar.Colon
due_of d.Name = Grammar.Name
due_of (d.Semicolon stage) = Grammar.Semicolon (stage_number stage)
due_of d.Builtin = Grammar.Builtin
due_of (d.Opening c) = Grammar.Opening (code_number c)
due_of (d.Argument p) = Grammar.Argument (code_number p.code) p.argument p.length
due_of (d.Next p) = Grammar.Next (code_number p.code) p.argument p.length
due_of d.Satisfy = Grammar.Satisfy

-- a word that a token writes, 0 where it writes none
abbrev pub word_or_none : Option ℕ → ℕ
word_or_none None = 0
word_or_none (Some w) = w

-- the definition's step at a token where a list or set is due
abbrev pub opened : ListPlace → List ℕ → Span → TokenStep
opened l bs t = Grammar.argument_step (text_form (f.Bracketed l.bracketed)) [] (code_number l.next.code) l.next.argument l.next.length (spanned bs t) (unread bs t.stop)

-- what the definition's step gives at a token of a text: a word, which is not 0, or none, and what is due next, or the step of the opening bracket of a list or
-- set, or a fault
abbrev pub GivesStep : TokenStep → List ℕ → Span → Step → Type 0
GivesStep step bs t (s.Single word next) = (step ≡ record { fault = Fault.none; word = word_or_none word; next = due_of next }) × IfSome word (λ w. 0 < w)
GivesStep step bs t (s.Opens l) = (sort_number t.sort ≡ opening_of l.bracketed) × (step ≡ opened l bs t)

abbrev pub StepOrFault : TokenStep → List ℕ → Span → Result Step Fault → Type 0
StepOrFault step bs t r = MatchResult r (GivesStep step bs t) (λ e. step.fault ≡ fault_number e)

-- and a fault at the token's place
abbrev pub StepOrRefusal : TokenStep → List ℕ → Span → Result Step error.Refusal → Type 0
StepOrRefusal step bs t r = MatchResult r (GivesStep step bs t) (λ e. (step.fault ≡ fault_number e.fault) × (e.place ≡ t.place))

-- a step with a word, whatever is due next, or a fault
abbrev pub WordOrFault : (Grammar.Due → TokenStep) → Result ℕ Fault → Type 0
WordOrFault step r = MatchResult r (λ w. (0 < w) × ((next : Grammar.Due) → step next ≡ record { fault = Fault.none; word = w; next = next })) (λ e. (next : Grammar.Due) → (step next).fault ≡ fault_number e)

-- the definition's step at a token inside brackets, after one of a sort, before the k-th argument of code c, where a list of length n stands before it
abbrev pub inside_step : List ℕ → Bracketed → Sort → Span → ℕ → ℕ → ℕ → TokenStep
inside_step bs l before t c k n = Grammar.step (tokens bs) (Grammar.Inside c k n (element_of l) (closing_of l) (sort_number before)) (spanned bs t) []

-- whether the token fits there
abbrev pub fits : Bracketed → Sort → Span → Bool
fits l before t = fits_inside (element_of l) (closing_of l) (sort_number before) (sort_number t.sort)

-- what the token is, whatever the argument, the code and the length are
abbrev pub GivesInside : List ℕ → Bracketed → Sort → Span → Inside → Type 0
GivesInside bs l before t (i.Element w) =
    (0 < w)
    × (fits l before t ≡ true)
    × (sort_number t.sort ≡ element_of l)
    × ((next : Grammar.Due) → Grammar.single_step (tokens bs) (element_of l) (spanned bs t) next ≡ record { fault = Fault.none; word = w; next = next })
GivesInside bs l before t i.Comma = (fits l before t ≡ true) × (eqb (sort_number t.sort) (element_of l) ≡ false) × (eqb (sort_number t.sort) (closing_of l) ≡ false)
GivesInside bs l before t i.Closing = (fits l before t ≡ true) × (eqb (sort_number t.sort) (element_of l) ≡ false) × (sort_number t.sort ≡ closing_of l)

abbrev pub InsideOrFault : List ℕ → Bracketed → Sort → Span → Result Inside Fault → Type 0
InsideOrFault bs l before t r = MatchResult r (GivesInside bs l before t) (λ e. (c k n : ℕ) → (inside_step bs l before t c k n).fault ≡ fault_number e)

abbrev pub InsideOrRefusal : List ℕ → Bracketed → Sort → Span → Result Inside error.Refusal → Type 0
InsideOrRefusal bs l before t r = MatchResult r (GivesInside bs l before t) (λ e. ((c k n : ℕ) → (inside_step bs l before t c k n).fault ≡ fault_number e.fault) × (e.place ≡ t.place))

-- a number, or one above the range where it is above it
unfoldable pub cap : ℕ → ℕ
cap n = n if leb n (Limit.half - 1) else Limit.half
