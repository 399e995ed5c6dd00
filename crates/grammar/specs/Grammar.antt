-- The grammar; 02, wish 8: "var lo..hi: name;" or "var bool: name;" items, then "constraint builtin(arguments);" items, then one "solve satisfy;".
-- What is due and the token met give a step: the token's fault, the word that it writes and what is due next.
use Rattle.std.specs.Prelude.{Bool, true, false, ◌&&◌, ◌||◌, List, ℕ, ◌+◌, ◌-◌, eqb, ltb, leb, length}
use Prim.Native.Char.{code}
use Rattle.integers.specs.Choice.{◌if◌else◌}
use Rattle.words.specs.Word.{word, number_word, in_range}
use Rattle.words.specs.Kind as Kind
use Rattle.words.specs.Fault as Fault
use Rattle.tokens.specs.Token as Token
use Rattle.tokens.specs.Token.{Token}
use Rattle.names.specs.Name.{is_word, code_of, variable_of}
use Rattle.grammar.specs.Value.{value_of}
use Rattle.grammar.specs.Brackets.{fits_inside, length_from}
use Rattle.grammar.specs.Form.{Form, Missing, One, Many, argument_forms, argument_form}

-- the stages of a text: a declaration may stand, only a constraint or the last item may, the last item was read
abbrev pub declaration_stage : ℕ
declaration_stage = 0

abbrev pub constraint_stage : ℕ
constraint_stage = 1

abbrev pub end_stage : ℕ
end_stage = 2

-- what is due at the next token of a text
pub data Due : Type 0 where
  -- the start of an item, at a stage of the text
  Item : (stage : ℕ) → Due
  -- after "var": "bool" or the lower bound; ".."; the upper bound; ":"; the name
  Domain : Due
  Dots : Due
  Upper : Due
  Colon : Due
  Name : Due
  -- ";", which ends an item; the stage of the next one
  Semicolon : (stage : ℕ) → Due
  -- after "constraint": the builtin's name, "("
  Builtin : Due
  Opening : (code : ℕ) → Due
  -- the k-th argument of a code, after a list of length n
  Argument : (code k n : ℕ) → Due
  -- "," before the k-th argument, or ")"
  Next : (code k n : ℕ) → Due
  -- inside the brackets before the k-th argument: the sort of an element, the closing bracket, the sort of the token before
  Inside : (code k n element closing before : ℕ) → Due
  -- after "solve": "satisfy"
  Satisfy : Due

-- what a token gives: its fault, 0 for none; the word that it writes, 0 for none; what is due next
pub record TokenStep : Type 0 where
  pub fault : ℕ
  pub word : ℕ
  pub next : Due

-- the step of a token with a fault, by its number, or with none: a token with a fault writes no word; 0 is no word
unfoldable pub gives : ℕ → ℕ → Due → TokenStep
gives number w next = record { fault = number; word = w if eqb number Fault.none else 0; next = next }

-- of a token that fits or breaks the grammar
unfoldable pub fitting : Bool → ℕ → Due → TokenStep
fitting fits = gives (Fault.none if fits else Fault.breaks_grammar)

-- of a token of sort s where one of `sort` is due, which must then be right: "at one byte the lower number"
unfoldable pub of_sort : ℕ → ℕ → Bool → ℕ → ℕ → Due → TokenStep
of_sort sort s right number = gives ((Fault.none if right else number) if eqb s sort else Fault.breaks_grammar)

-- of a name that is right, or is unknown or declared twice; of a number, with its word of a kind
unfoldable pub name_step : ℕ → Bool → ℕ → Due → TokenStep
name_step s right = of_sort Token.name s right Fault.wrong_name

unfoldable pub number_step : ℕ → Token → Due → TokenStep
number_step kind t = let z = value_of t.spelling in of_sort Token.number t.sort (in_range z) Fault.outside_range (number_word kind z)

-- of an argument or element of one token: a number, or the name of a variable
unfoldable pub single_step : List Token → ℕ → Token → Due → TokenStep
single_step all sort t next =
    let v = variable_of all t in
    number_step Kind.number t next if eqb sort Token.number else name_step t.sort (ltb 0 v) (word Kind.variable (v - 1)) next

-- of the argument before the k-th of code c; n is the length of the list before it. A list writes its length, and of parallel ones only the first:
-- 01, Words: "Parallel lists share one length word"; "parallel lists of unequal length, at the second unless the grammar breaks inside it, break the grammar"
unfoldable pub argument_step : Form → List Token → ℕ → ℕ → ℕ → Token → List Token → TokenStep
argument_step Missing all c k n t ts = fitting false 0 (Semicolon constraint_stage)
argument_step (One sort) all c k n t ts = single_step all sort t (Next c k n)
argument_step (Many opening element closing second) all c k n t ts =
    let a = length_from element closing opening 0 ts in
    fitting (eqb t.sort opening && (eqb a 0 || eqb (a - 1) n)) 0 (Inside c k n element closing opening) if second
    else fitting (eqb t.sort opening) (word Kind.number (a - 1)) (Inside c k (a - 1) element closing opening)

-- of token t before the tokens ts, where this is due; `all` has the tokens of the text. "A wrong count (at the closing bracket or the first argument
-- too many)": a comma always fits after an argument, and what stands after it does not where no argument is left
unfoldable pub step : List Token → Due → Token → List Token → TokenStep
step all (Item stage) t ts =
    fitting (eqb stage declaration_stage) 0 Domain if is_word "var" t
    else fitting (leb stage constraint_stage) 0 Builtin if is_word "constraint" t
    else fitting (leb stage constraint_stage) 0 Satisfy if is_word "solve" t
    else fitting (eqb t.sort Token.end && eqb stage end_stage) 0 (Item end_stage)
step all Domain t ts = fitting true (word Kind.boolean 0) Colon if is_word "bool" t else number_step Kind.lower t Dots
step all Dots t ts = fitting (eqb t.sort (code ".")) 0 Upper
step all Upper t ts = number_step Kind.upper t Colon
step all Colon t ts = fitting (eqb t.sort (code ":")) 0 Name
step all Name t ts = name_step t.sort (eqb (variable_of all t) 0) 0 (Semicolon declaration_stage)
step all (Semicolon stage) t ts = fitting (eqb t.sort (code ";")) (word Kind.model_end 0 if eqb stage end_stage else 0) (Item stage)
step all Builtin t ts = name_step t.sort (ltb 0 (code_of t)) (word Kind.constraint (code_of t)) (Opening (code_of t))
step all (Opening c) t ts = fitting (eqb t.sort (code "(")) 0 (Argument c 0 0)
step all (Argument c k n) t ts = argument_step (argument_form c k) all c (k + 1) n t ts
step all (Next c k n) t ts =
    fitting true 0 (Argument c k n) if eqb t.sort (code ",")
    else fitting (eqb t.sort (code ")") && leb (length (argument_forms c)) k) 0 (Semicolon constraint_stage)
step all (Inside c k n element closing before) t ts =
    let fits = fits_inside element closing before t.sort in
    single_step all element t (Inside c k n element closing element) if fits && eqb t.sort element
    else fitting fits 0 (Next c k n if eqb t.sort closing else Inside c k n element closing t.sort)
step all Satisfy t ts = fitting (is_word "satisfy" t) 0 (Semicolon end_stage)
