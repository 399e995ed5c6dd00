-- The model behind accepted words: its constraints, each with the place of its head word, and their builtins.
use Rattle.std.specs.Prelude.{List, [], ◌∷◌, map, ℕ, ◌+◌, leb, eqb, ℤ, get_or, drop}
use Rattle.integers.specs.Choice.{◌if◌else◌}
use Rattle.integers.specs.Lists.{list_of}
use Rattle.integers.specs.Terms.{Term, ◌·◌}
use Rattle.words.specs.Word.{kind, payload, signed, word_at}
use Rattle.words.specs.Kind as Kind
use Rattle.words.specs.Limit as Limit
use Rattle.models.specs.Builtin.{Builtin, int_eq}
use Rattle.models.specs.Table.{Sort, integer, boolean, number, exponent, numbers, set, integers, booleans, parallel, Argument, Takes, Code, codes}

-- a constraint: the place of its head word, its code, and the words after its head
pub record Constraint : Type 0 where
  pub place : ℕ
  pub code : ℕ
  pub arguments : List ℕ

-- the constraint whose head stands at a place
abbrev pub headed : List ℕ → ℕ → Constraint
headed ws at = record { place = at; code = payload (word_at ws at); arguments = drop (at + 1) ws }

-- one for each word of kind 4, the words counted from p
unfoldable pub constraints_from : ℕ → List ℕ → List Constraint
constraints_from p [] = []
constraints_from p (w ∷ ws) =
    let rest = constraints_from (p + 1) ws in
    record { place = p; code = payload w; arguments = ws } ∷ rest if eqb (kind w) Kind.constraint
    else rest

unfoldable pub constraints : List ℕ → List Constraint
constraints ws = constraints_from 0 ws

-- the words of the variables: those before the first of a kind above 3
unfoldable pub source_words : List ℕ → List ℕ
source_words [] = []
source_words (w ∷ ws) = let rest = source_words ws in w ∷ rest if leb (kind w) Kind.boolean else []

-- ---- the arguments among the words after a head
module _ (ws : List ℕ) where
  -- a variable and a number at place i
  unfoldable pub var : ℕ → ℕ
  var i = payload (word_at ws i)

  unfoldable pub num : ℕ → ℤ
  num i = signed (word_at ws i)

  -- the length whose word is at place i; in an accepted model no length is above 32
  unfoldable pub size : ℕ → ℕ
  size i = var i if leb (var i) Limit.list_length else Limit.list_length

  -- the exponent at place i; in an accepted model none is above 27
  unfoldable pub exponent_at : ℕ → ℕ
  exponent_at i = var i if leb (var i) Limit.exponent else Limit.exponent

  -- 01, Words: "A list argument is a 6 with its length n, then its n arguments."
  -- The list whose length word is at place i: of variables, of numbers; and the place after it
  unfoldable pub vars : ℕ → List ℕ
  vars i = list_of (λ k. var (i + 1 + k)) (size i)

  unfoldable pub nums : ℕ → List ℤ
  nums i = list_of (λ k. num (i + 1 + k)) (size i)

  unfoldable pub past : ℕ → ℕ
  past i = i + 1 + size i

  -- 01, Words: "Parallel lists share one length word: all numbers, then all variables."
  -- These lists, as terms; and the place after them
  unfoldable pub terms : ℕ → List (Term ℕ)
  terms i = list_of (λ k. num (i + 1 + k) · var (past i + k)) (size i)

  unfoldable pub past_terms : ℕ → ℕ
  past_terms i = past i + size i

  -- the argument of a sort at place i, and the place after it
  abbrev pub argument_at : ℕ → (s : Sort) → Argument s
  argument_at i integer = var i
  argument_at i boolean = var i
  argument_at i number = num i
  argument_at i exponent = exponent_at i
  argument_at i numbers = nums i
  argument_at i set = nums i
  argument_at i integers = vars i
  argument_at i booleans = vars i
  argument_at i parallel = terms i

  abbrev pub place_after : ℕ → Sort → ℕ
  place_after i integer = i + 1
  place_after i boolean = i + 1
  place_after i number = i + 1
  place_after i exponent = i + 1
  place_after i numbers = past i
  place_after i set = past i
  place_after i integers = past i
  place_after i booleans = past i
  place_after i parallel = past_terms i

  -- the builtin of the arguments from place i on
  abbrev pub given : ℕ → (ss : List Sort) → Takes ss → Builtin
  given i [] b = b
  given i (s ∷ ss) f = given (place_after i s) ss (f (argument_at i s))

-- by code, from the words after the head; accepted words have no code 0 and none past the last, for which int_eq(0,0) stands
unfoldable pub builtins : List (List ℕ → Builtin)
builtins = (λ ws. int_eq 0 0) ∷ map (λ (c : Code) ws. given ws 0 c.sorts c.make) codes

unfoldable pub builtin : Constraint → Builtin
builtin c = get_or builtins c.code (λ ws. int_eq 0 0) c.arguments
