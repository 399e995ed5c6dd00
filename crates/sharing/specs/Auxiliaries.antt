-- 02, wish 7: what one encoding for one variable saves and what it costs, in auxiliaries, against the rules of 01 taken one by one.
use Rattle.std.specs.Prelude.{Bool, not, ◌&&◌, ℕ, eqb, ℤ, pos, length}
use mathlib.Core.List.{List, [], flat_map}
use Rattle.integers.specs.Choice.{◌if◌else◌}
use Rattle.integers.specs.Number.{+1}
use Rattle.integers.specs.Lists.{any}
use Rattle.integers.specs.Bounds.{◌to◌, within, values}
use Rattle.integers.specs.declared.Bounds.{Bounds}
use Rattle.models.specs.Meaning.{member}
use Rattle.models.specs.Model.{constraints, builtin}
use Rattle.rules.specs.Rule.{rule}
use Rattle.rules.specs.Shared.{Choice, of_element, of_var_element, of_set, of_set_reif, no_choice, choice, encodes, Encoded, first_of, keep}
use Rattle.rules.specs.Translation.{bounds, shared, of_blocks}

-- the auxiliaries of 01's own block of every constraint
unfoldable pub own_auxiliaries : List ℕ → List Bounds
own_auxiliaries ws = flat_map (λ c. (rule (bounds ws) (builtin c)).auxiliaries) (constraints ws)

-- the values that a choice leaves out: in 24, 25 those that are no place of the list, in 27 those that are no member; 28 has none
unfoldable pub leaves_out : (ℕ → Bounds) → Choice → List ℤ
leaves_out β (of_element i ns c) = keep (λ v. not (within (+1 to pos (length ns)) v)) (values (β i))
leaves_out β (of_var_element i xs c) = keep (λ v. not (within (+1 to pos (length xs)) v)) (values (β i))
leaves_out β (of_set x S) = keep (λ v. not (member v S)) (values (β x))
leaves_out β (of_set_reif x S r) = []
leaves_out β no_choice = []

-- a choice is the first by a shared variable
unfoldable pub is_first : (ℕ → Bool) → Encoded → Choice → Bool
is_first s e ch = any (λ x. s x && eqb (first_of e x) 0) (encodes ch)

-- the values that are left out at the first constraint of each shared variable
unfoldable pub left_at_first : List ℕ → List ℤ
left_at_first ws = of_blocks ws (λ first e c. leaves_out (bounds ws) (choice c) if is_first (shared ws) e (choice c) else [])
