-- The calls so far, and those of one more constraint or variable.
use Rattle.std.proofs.Common.{◌≡◌, refl, sym, ap, ap₂, ◌∙◌, subst, List, [], ◌∷◌, ◌++◌, map, ℕ, ◌+◌, ◌<◌, length, take, get_or, Option, Some, None, arith}
use Rattle.std.specs.Prelude.{IsSome}
use Rattle.std.proofs.lemmas.List.{take_more, length-map, map-append, length-take-le}
use Rattle.integers.proofs.Tests.{false-true}
use Rattle.flatzinc.specs.declared.Call.{Call}
use Rattle.flatzinc.specs.declared.Atom.{Atom}
use Rattle.flatzinc.specs.declared.Item.{Item}
use Rattle.flatzinc.specs.declared.Declared.{Declared}
use Rattle.flatzinc.specs.Items.{Placed}
use Rattle.flatzinc.specs.Items as i
use Rattle.flatzinc.specs.Seen.{item, declared}
use Rattle.flatzinc.specs.Calls.{placed_all}
use Rattle.flatrewriting.specs.Rewritten.{rewritten}
use Rattle.flatrewriting.specs.Variables.{all_items, given_items, equal_items}
use Rattle.flattening.specs.Flattened.{joined, constraint_items, variable_items}
use Rattle.flattening.specs.Placed.{PlacesAll}
use Rattle.flattening.proofs.PlacedCalls.{placed_append, constraint_more, variable_more}

pub both-there : (o p : Option (List Placed)) → IsSome o → IsSome p → IsSome (joined o p)
both-there None p h k = false-true h
both-there (Some qs) None h k = false-true k
both-there (Some qs) (Some rs) h k = h

next-constraints : (xs : List Item) (k : ℕ) (d : Item) → k < length xs →
    constraint_items (map item (take (k + 1) xs)) ≡ joined (constraint_items (map item (take k xs))) (rewritten (item (get_or xs k d)))
next-constraints xs k d l =
    ap (λ ys. constraint_items (map item ys)) (take_more xs k d l)
    ∙ ap constraint_items (map-append item (take k xs) (get_or xs k d ∷ []))
    ∙ constraint_more (map item (take k xs)) (item (get_or xs k d))

pub grown-constraints : (cs ds es : List Call) (xs : List Item) (k : ℕ) (d : Item) → k < length xs → es ≡ cs ++ ds →
    PlacesAll cs (constraint_items (map item (take k xs))) → PlacesAll ds (rewritten (item (get_or xs k d))) →
    PlacesAll es (constraint_items (map item (take (k + 1) xs)))
grown-constraints cs ds es xs k d l e h g =
    let n = next-constraints xs k d l in (
      ap placed_all e ∙ placed_append cs ds ∙ ap₂ joined h.0 g.0 ∙ sym n,
      subst IsSome (sym n) (both-there (constraint_items (map item (take k xs))) (rewritten (item (get_or xs k d))) h.1 g.1),
    )

pub grown-variables : (cs ds es : List Call) (xs : List Declared) (k : ℕ) (d : Declared) → k < length xs → es ≡ cs ++ ds →
    placed_all cs ≡ variable_items 0 (map declared (take k xs)) → placed_all ds ≡ all_items k (declared (get_or xs k d)) →
    placed_all es ≡ variable_items 0 (map declared (take (k + 1) xs))
grown-variables cs ds es xs k d l e h g =
    ap placed_all e ∙ placed_append cs ds ∙ ap₂ joined h (g ∙ ap (λ n. all_items n (declared (get_or xs k d))) (sym count))
    ∙ sym (ap (λ ys. variable_items 0 (map declared ys)) (take_more xs k d l)
    ∙ ap (variable_items 0) (map-append declared (take k xs) (get_or xs k d ∷ []))
    ∙ variable_more 0 (map declared (take k xs)) (declared (get_or xs k d)))
  where
    count : 0 + length (map declared (take k xs)) ≡ k
    count = let a = length-map (take k xs) declared in let b = length-take-le k xs (omega arith) in omega arith

-- a variable's calls are always there
given-there : (v : ℕ) (D : i.Domain) (o : Option Atom) → IsSome (all_items v (record { domain = D; given = o }))
unfolding given_items equal_items rewritten
given-there v D None = refl
given-there v i.bools (Some a) = refl
given-there v (i.between lo hi) (Some a) = refl
given-there v (i.among S) (Some a) = refl

pub variables-there : (v : ℕ) (ds : List i.Declared) → IsSome (variable_items v ds)
unfolding variable_items
variables-there v [] = refl
variables-there v (d ∷ ds) = both-there (all_items v d) (variable_items (v + 1) ds) (given-there v d.domain d.given) (variables-there (v + 1) ds)
