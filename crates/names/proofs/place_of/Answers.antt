-- Each builtin's name has its place at its slot, by computation.
use Rattle.std.proofs.Common.{◌≡◌, refl, sym, ap, ◌∙◌, Bool, true, false, ◌&&◌, List, [], map, ℕ, ◌+◌, ◌-◌, ◌<◌, arith, eqb, ltb, length, get_or, eqb-true, ltb-true, lt-ltb}
use borrow.Author.Tests.{eqb-false}
use Rattle.integers.proofs.Booleans.{both_true}
use Rattle.integers.proofs.Tests.{false-true}
use Rattle.std.proofs.lemmas.List.{get_or-map}
use Rattle.integers.specs.Lists.{list_of}
use Rattle.integers.proofs.Places.{get_or-list_of}
use Rattle.tokens.specs.Byte.{bytes}
use Rattle.names.specs.Name.{same, look_up, builtin_names}
use Rattle.names.specs.Slot.{slot}
use Rattle.names.specs.declared.TheConstants.{PLACES}
use Rattle.names.proofs.Slots.{Placed, found, hit}
use Rattle.names.proofs.place_of.Goals as goal

abbrev names : List (List ℕ)
names = map bytes builtin_names

place : List ℕ → ℕ
place x = get_or PLACES (slot x) 0

in_order : map place names ≡ list_of (λ i. i) 39
unfolding place slot builtin_names bytes list_of
in_order = refl

count : length names ≡ 39
unfolding builtin_names
count = refl

placed : (x : List ℕ) → Placed place x 0 names
placed x i h =
    let e : 0 + i ≡ i = omega arith in
    sym (get_or-map place names i [] 0 h) ∙ ap (λ (l : List ℕ). get_or l i 0) in_order ∙ get_or-list_of (λ i. i) 39 i 0 (rw count at h) ∙ sym e

-- what is found, by what stands at the slot's place
module _ (x : List ℕ) {s : ℕ} (e : s ≡ slot x) where
  here : place x ≡ get_or PLACES s 0
  unfolding place
  here = rw e

  pub there : (ltb (get_or PLACES s 0) 39 && same x (get_or names (get_or PLACES s 0) [])) ≡ true → get_or PLACES s 0 + 1 ≡ look_up x 0 names
  there t =
      let parts = both_true (ltb (get_or PLACES s 0) 39) (same x (get_or names (get_or PLACES s 0) [])) t in
      let h : place x < length names = rw (count, here) (ltb-true (get_or PLACES s 0) 39 parts.0) in
      let f = found place x 0 names (placed x) (hit x 0 (place x) names h (rw here parts.1)) in
      sym (f.0 ∙ ap (λ (n : ℕ). n + 1) here)

  pub nowhere : (ltb (get_or PLACES s 0) 39 && same x (get_or names (get_or PLACES s 0) [])) ≡ false → 0 ≡ look_up x 0 names
  nowhere q = sym (go (eqb (look_up x 0 names) 0) refl)
    where
      go : (b : Bool) → eqb (look_up x 0 names) 0 ≡ b → look_up x 0 names ≡ 0
      go true e = eqb-true (look_up x 0 names) 0 e
      go false e =
          let r = found place x 0 names (placed x) (eqb-false (look_up x 0 names) 0 e) in
          let h : get_or PLACES s 0 < 39 = omega (arith, r.2, count, here) in
          let z : place x - 0 ≡ get_or PLACES s 0 = omega (arith, here) in
          let t : same x (get_or names (get_or PLACES s 0) []) ≡ true = rw z at r.3 in
          absurd (false-true (sym q ∙ rw (lt-ltb (get_or PLACES s 0) 39 h, t)))

pub returns-then-is_named : goal.returns-then-is_named
unfolding builtin_names bytes list_of
returns-then-is_named c = there c.args.name.now c.slot_of.ensures.value (sym c.is_named.ensures ∙ c.if-is_named.true)

pub returns : goal.returns
unfolding builtin_names bytes list_of
returns c = nowhere c.args.name.now c.slot_of.ensures.value (sym c.is_named.ensures ∙ c.if-is_named.false)
