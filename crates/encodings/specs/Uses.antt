-- How many constraints encode each variable, counted one after another; which variables are shared by these counts; how large what is recorded is.
use Rattle.std.specs.Prelude.{Bool, ◌||◌, List, [], ◌∷◌, ℕ, ◌+◌, ◌<◌, eqb, ltb, get_or, set, replicate}
use Rattle.words.specs.Limit as Limit
use Rattle.models.specs.Model.{Constraint}
use Rattle.rules.specs.Shared.{Choice, choice, encodes, Encoded, first_of}

-- the choice of the constraint of a code with these words after its head; its place plays no part
unfoldable pub choice_of : ℕ → List ℕ → Choice
choice_of code args = choice (record { place = 0; code = code; arguments = args })

-- the codes that choose by the value of their first argument
unfoldable pub choosing : ℕ → Bool
choosing code = eqb code 24 || (eqb code 25 || (eqb code 27 || eqb code 28))

-- one use more of a variable that a constraint encodes
unfoldable pub counted : List ℕ → List ℕ → List ℕ
counted uses [] = uses
counted uses (x ∷ xs) = set uses x (get_or uses x 0 + 1)

-- no use of any variable so far
abbrev pub no_uses : List ℕ
no_uses = replicate Limit.variables 0

-- the uses of all, after those that are counted
unfoldable pub uses_from : List ℕ → List Constraint → List ℕ
uses_from uses [] = uses
uses_from uses (c ∷ cs) = uses_from (counted uses (encodes (choice c))) cs

-- "for two or more constraints", by the counts
abbrev pub shared_by : List ℕ → ℕ → Bool
shared_by uses v = ltb 1 (get_or uses v 0)

-- no count comes near what would wrap
abbrev pub UsesFew : List ℕ → Type 0
UsesFew uses = (v : ℕ) → get_or uses v 0 < 1000000

-- the first bits that are recorded are numbers of auxiliaries, far below what would wrap
abbrev pub Recorded : Encoded → Type 0
Recorded e = (x : ℕ) → first_of e x < 10000
