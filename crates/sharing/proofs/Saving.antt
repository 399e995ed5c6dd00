-- 02, wish 7: a shared variable costs at most an auxiliary for each value that is left out at its first constraint, and 28 leaves none out: where
-- only 28 share variables, there are never more auxiliaries than by 01's own rules.
use Rattle.std.proofs.Common.{◌≡◌, refl, sym, ap, ◌∙◌, Bool, true, false, not, ◌&&◌, List, [], ◌∷◌, ℕ, ◌+◌, ◌≤◌, arith, eqb, ℤ, pos, length, length-append}
use mathlib.Core.List.{flat_map}
use lib.ListN.{length-map}
use Rattle.integers.specs.Choice.{◌if◌else◌}
use Rattle.integers.specs.Number.{+1}
use Rattle.integers.specs.Lists.{any}
use Rattle.integers.specs.Bounds.{◌to◌, within, values}
use Rattle.integers.specs.declared.Bounds.{Bounds}
use Rattle.integers.proofs.Lists.{all_implies, any-map}
use Rattle.integers.proofs.Tests.{All, says_any}
use Rattle.words.specs.Variables.{variables}
use Rattle.models.specs.Builtin.{Builtin}
use Rattle.models.specs.Meaning.{member}
use Rattle.models.specs.Model.{Constraint, constraints, builtin}
use Rattle.rules.specs.Parts.{bits, places}
use Rattle.rules.specs.Rule.{rule, number_element, variable_element, in_set, in_set_reified}
use Rattle.rules.specs.Shared.{Choice, choice, encodes, shares, Encoded, none_yet, first_of, keep, new_bits, shared_rule, rule_after}
use Rattle.rules.specs.Translation.{bounds, shared, block_of, each_block, auxiliaries}
use Rattle.rules.proofs.Members.{keep-both, members-values, places-kept}
use Rattle.sharing.specs.Auxiliaries.{own_auxiliaries, leaves_out, is_first, left_at_first}
use Rattle.rules.proofs.Lengths.{bits-length}
use Rattle.sharing.proofs.Codes.{any-one}
use Rattle.sharing.proofs.Choices.{View, is-element, is_var_element, is_set, is_set_reif, other, view, not-shared}
use Rattle.sharing.proofs.Assembly.{after, auxiliaries_from}

-- ---- one block

-- the first by a shared variable is by a shared variable
first-shares : (s : ℕ → Bool) (e : Encoded) (ch : Choice) → is_first s e ch ≡ true → shares s ch ≡ true
unfolding is_first shares
first-shares s e ch h = go (encodes ch) h
  where
    left : (a b : Bool) → (a && b) ≡ true → a ≡ true
    left true b p = refl
    left false b p = p

    go : (xs : List ℕ) → any (λ x. s x && eqb (first_of e x) 0) xs ≡ true → any s xs ≡ true
    go xs p =
        (says_any s (λ x. s x ≡ true) (λ x. (λ q. q, λ q. q)) xs).1
        (any-map _ _ (λ x q. left (s x) _ q) xs ((says_any _ (λ x. (s x && eqb (first_of e x) 0) ≡ true) (λ x. (λ q. q, λ q. q)) xs).0 p))

-- 28 leaves nothing out
of-28 : (β : ℕ → Bounds) (c : Constraint) → c.code ≡ 28 → leaves_out β (choice c) ≡ []
unfolding choice leaves_out
of-28 β c e = rw e refl

module _ (β : ℕ → Bounds) (s : ℕ → Bool) (e : Encoded) where
  abbrev left_here : Choice → List ℤ
  left_here ch = leaves_out β ch if is_first s e ch else []

  -- the new bits are no more than `own` and, where there are new bits, the values that are left out
  new_counted : (x : ℕ) (own : ℕ) (left : List ℤ) → any s (x ∷ []) ≡ true → length (values (β x)) ≤ own + length left →
      length (new_bits β e x) ≤ own + length (left if any (λ y. s y && eqb (first_of e y) 0) (x ∷ []) else [])
  unfolding new_bits
  new_counted x own left h k =
      rw (any-one (λ y. s y && eqb (first_of e y) 0) x, sym (any-one s x) ∙ h) (go (eqb (first_of e x) 0))
    where
      go : (b : Bool) → length (bits (values (β x)) if b else []) ≤ own + length (left if b else [])
      go true = simp bits-length (omega arith)
      go false = omega arith

  -- 24, 25: the places, and the values that are none
  places_count : (B : Bounds) (n : ℕ) → let out = keep (λ v. not (within (+1 to pos n) v)) (values B) in
      length (values B) ≤ length (values (places B n)) + length out
  places_count B n = omega (arith, keep-both (within (+1 to pos n)) (values B), ap length (places-kept B n))

  shared_costs : {ch : Choice} {b : Builtin} → View ch b → shares s ch ≡ true →
      length (shared_rule β e ch).auxiliaries ≤ length (rule β b).auxiliaries + length (left_here ch)
  unfolding shared_rule rule number_element variable_element in_set in_set_reified leaves_out is_first shares encodes
  shared_costs (is-element i ns c) h = new_counted i _ _ h (simp bits-length (places_count (β i) (length ns)))
  shared_costs (is_var_element i xs c) h =
      simp (length-append, length-map, bits-length)
      (omega (arith, new_counted i (length (values (places (β i) (length xs)))) (keep (λ v. not (within (+1 to pos (length xs)) v)) (values (β i))) h (places_count (β i) (length xs)), ap length (places-kept (β i) (length xs))))
  shared_costs (is_set x S) h =
      new_counted x _ _ h (simp bits-length (omega (arith, keep-both (λ v. member v S) (values (β x)), ap length (members-values S (β x)))))
  shared_costs (is_set_reif x S r) h = new_counted x _ [] h (simp bits-length (omega arith))
  shared_costs (other b) h = not-shared s h

  one_costs : (c : Constraint) → length (block_of β s e c).auxiliaries ≤ length (rule β (builtin c)).auxiliaries + length (left_here (choice c))
  unfolding block_of rule_after
  one_costs c = go (shares s (choice c)) refl
    where
      go : (t : Bool) → shares s (choice c) ≡ t →
          length (shared_rule β e (choice c) if t else rule β (builtin c)).auxiliaries ≤ length (rule β (builtin c)).auxiliaries + length (left_here (choice c))
      go true h = shared_costs (view c) h
      go false h = omega arith

-- ---- all blocks

blocks_cost : (β : ℕ → Bounds) (s : ℕ → Bool) (first : ℕ) (e : Encoded) (cs : List Constraint) →
    length (auxiliaries_from β s first e cs)
    ≤ length (flat_map (λ c. (rule β (builtin c)).auxiliaries) cs) + length (each_block β s (λ first e c. left_here β s e (choice c)) first e cs)
unfolding each_block flat_map
blocks_cost β s first e [] = omega arith
blocks_cost β s first e (c ∷ cs) =
    let n = first + length (block_of β s e c).auxiliaries in
    let d = after β s first e c in
    omega (
      arith,
      length-append (block_of β s e c).auxiliaries (auxiliaries_from β s n d cs),
      length-append (rule β (builtin c)).auxiliaries (flat_map (λ c. (rule β (builtin c)).auxiliaries) cs),
      length-append (left_here β s e (choice c)) (each_block β s (λ first e c. left_here β s e (choice c)) n d cs),
      one_costs β s e c,
      blocks_cost β s n d cs,
    )

pub sharing_costs : (ws : List ℕ) → length (auxiliaries ws) ≤ length (own_auxiliaries ws) + length (left_at_first ws)
unfolding auxiliaries own_auxiliaries left_at_first
sharing_costs ws = blocks_cost (bounds ws) (shared ws) (length (variables ws)) none_yet (constraints ws)

-- ---- where nothing is left out, and where only 28 share

nothing_left : (β : ℕ → Bounds) (s : ℕ → Bool) (first : ℕ) (e : Encoded) (cs : List Constraint) →
    All (λ c. shares s (choice c) ≡ true → leaves_out β (choice c) ≡ []) cs → each_block β s (λ first e c. left_here β s e (choice c)) first e cs ≡ []
unfolding each_block
nothing_left β s first e [] h = refl
nothing_left β s first e (c ∷ cs) h = rw (none (is_first s e (choice c)) refl, nothing_left β s (first + length (block_of β s e c).auxiliaries) (after β s first e c) cs h.1)
  where
    none : (b : Bool) → is_first s e (choice c) ≡ b → ◌≡◌ {A = List ℤ} (leaves_out β (choice c) if b else []) []
    none true p = h.0 (first-shares s e (choice c) p)
    none false p = refl

pub sharing_saves : (ws : List ℕ) → All (λ c. shares (shared ws) (choice c) ≡ true → leaves_out (bounds ws) (choice c) ≡ []) (constraints ws) →
    length (auxiliaries ws) ≤ length (own_auxiliaries ws)
unfolding left_at_first
sharing_saves ws h =
    omega (arith, sharing_costs ws, ap length (nothing_left (bounds ws) (shared ws) (length (variables ws)) none_yet (constraints ws) h))

pub saves_28 : (ws : List ℕ) → All (λ c. shares (shared ws) (choice c) ≡ true → c.code ≡ 28) (constraints ws) →
    length (auxiliaries ws) ≤ length (own_auxiliaries ws)
saves_28 ws h = sharing_saves ws (all_implies _ _ (λ c p q. none c (p q)) (constraints ws) h)
  where
    none : (c : Constraint) → c.code ≡ 28 → leaves_out (bounds ws) (choice c) ≡ []
    none c e = of-28 (bounds ws) c e
