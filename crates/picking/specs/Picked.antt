-- The numbers that fill writes for one constraint.
use Rattle.std.specs.Prelude.{List, [], map, ℕ, ℤ, pos, length}
use Rattle.integers.specs.Number.{◌⊗◌, ◌≟◌, +1}
use Rattle.integers.specs.Bounds.{◌to◌, within, values, bounds_in}
use Rattle.integers.specs.declared.Bounds.{Bounds}
use Rattle.integers.specs.Terms.{value}
use Rattle.models.specs.Model.{var, vars, builtin}
use Rattle.arguments.specs.declared.instance.Instance.{Instance}
use Rattle.rules.specs.Parts.{nth}
use Rattle.rules.specs.Pick.{bit_of, pick}
use Rattle.rules.specs.Shared.{Encoded, keep, new_pick, shared_pick, pick_after}
use Rattle.encodings.specs.Uses.{choice_of, shared_by}

-- for the constraint of a code, with the words after its head and the values of an instance; its place plays no part
abbrev pub picks_of : List Bounds → Instance → ℕ → List ℤ
picks_of Ds i code = pick (bounds_in Ds) (value i.values.now) (builtin (record { place = 0; code = code; arguments = i.args.now }))

-- for a constraint whose picks no bounds decide, so that none are given
abbrev pub plain_picks : Instance → ℕ → List ℤ
plain_picks = picks_of []

-- 25: the z of the places that its i can have
unfoldable pub product_picks : List Bounds → Instance → List ℤ
product_picks Ds instance =
    let σ = value instance.values.now in
    let i = var instance.args.now 0 in
    let xs = vars instance.args.now 1 in
    map (λ j. σ (nth 0 xs j) ⊗ bit_of (j ≟ σ i)) (keep (within (+1 to pos (length xs))) (values (bounds_in Ds i)))

-- for a constraint, given the counted uses and the record of encoded variables
abbrev pub picks_after : List Bounds → List ℕ → Encoded → List ℤ → ℕ → List ℕ → List ℤ
picks_after Ds uses e vs code args =
    pick_after (bounds_in Ds) (shared_by uses) e (value vs) (choice_of code args) (builtin (record { place = 0; code = code; arguments = args }))

-- over a shared variable: the new bits, and all picks
abbrev pub new_picks : List Bounds → Encoded → Instance → List ℤ
new_picks Ds e i = new_pick (bounds_in Ds) e (value i.values.now) (var i.args.now 0)

abbrev pub shared_picks : List Bounds → Encoded → Instance → ℕ → List ℤ
shared_picks Ds e i code = shared_pick (bounds_in Ds) e (value i.values.now) (choice_of code i.args.now)
