-- What annotations name, and the index sets of output_array([1..2,1..3]).
use Rattle.std.specs.Prelude.{Bool, false, ◌||◌, List, [], ◌∷◌, ℕ, eqb, reverse, Option, Some, None, codes}
use Prim.Native.Char.{code}
use Rattle.std.specs.Str.{bytes_eq}
use Rattle.integers.specs.Choice.{◌if◌else◌}
use Rattle.flattokens.specs.Token.{Token, name, number, sign}
use Rattle.flatplaces.specs.declared.annotations.IndexSet.{IndexSet}
use Rattle.flatplaces.specs.declared.annotations.Stage.{Stage}
use Rattle.flatplaces.specs.declared.annotations.Stage.TheVariants.{Before, Between, Behind, After}

unfoldable pub is_name : List ℕ → Token → Bool
is_name wanted (name bs) = bytes_eq bs wanted
is_name wanted t = false

-- some token of them is the name
abbrev pub is_noted : List ℕ → List Token → Bool
is_noted wanted [] = false
is_noted wanted (t ∷ ts) = is_name wanted t || is_noted wanted ts

-- the numbers from output_array on to the first closing bracket, two and two
unfoldable pub after_token : Stage → Token → Stage
after_token Before (name bs) = Between if bytes_eq bs (codes "output_array") else Before
after_token Between (number n) = Behind n
after_token (Behind lower) (number upper) = Between
after_token Between (sign b) = After if eqb b (code ")") else Between
after_token (Behind lower) (sign b) = After if eqb b (code ")") else Behind lower
after_token stage t = stage

-- the index set that a token ends
unfoldable pub ended_set : Stage → Token → Option IndexSet
ended_set (Behind lower) (number upper) = Some (record { lower = lower; upper = upper })
ended_set stage t = None

abbrev pub with_set : Option IndexSet → List IndexSet → List IndexSet
with_set None ss = ss
with_set (Some s) ss = s ∷ ss

abbrev pub sets_from : Stage → List Token → List IndexSet
sets_from stage [] = []
sets_from stage (t ∷ ts) = with_set (ended_set stage t) (sets_from (after_token stage t) ts)

-- the last one first
abbrev pub index_sets : List Token → List IndexSet
index_sets notes = reverse (sets_from Before notes)
