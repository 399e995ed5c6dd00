-- The walk of a name along its links. For `slot_of`.
use Rattle.std.proofs.Common.{◌≡◌, refl, sym, ap, ◌∙◌, inl, inr, Bool, true, false, List, ℕ, zero, suc, ◌+◌, ◌-◌, ◌*◌, ◌/◌, ◌%◌, ◌^◌, ◌<◌, ◌≤◌, arith, eqb, ne_eqb, ltb, get_or}
use borrow.Author.Tests.{eqb-false}
use Rattle.std.proofs.lemmas.Slice.Eq.{bytes_eq-Decides}
use Rattle.integers.specs.Choice.{◌if◌else◌}
use Rattle.integers.proofs.Tests.{false-true}
use Rattle.names.specs.Name.{same}
use Rattle.names.proofs.Names.{same_self}
use Rattle.symbols.specs.Links.{hash, tag, first_link, side, next_link, leads_in, Leads, Keeps}
use Rattle.symbols.specs.Tree.{Names, IsTree, Vacant, name_at}

-- ---- the same bytes are the same name

pub same-equal : (x y : List ℕ) → same x y ≡ true → x ≡ y
same-equal x y e = (bytes_eq-Decides x y).0 e

pub same-differ : (x y : List ℕ) → same x y ≡ false → x ≡ y → ⊥
same-differ x y q e = false-true (sym q ∙ (rw e (same_self y)))

-- names whose hashes leave different tags differ
pub other_tag : (x y : List ℕ) → (tag (hash x) ≡ tag (hash y) → ⊥) → same x y ≡ false
other_tag x y n = go (same x y) refl
  where
    go : (b : Bool) → same x y ≡ b → b ≡ false
    go true q = absurd (n (ap (λ (z : List ℕ). tag (hash z)) (same-equal x y q)))
    go false q = refl

-- ---- a side is one of two

pub side_few : (h : ℕ) (x : List ℕ) (d : ℕ) → side h x d < 2
unfolding side
side_few h x d = go (ltb d 19) (h / 2 ^ (18 - d)) (get_or x ((d - 19) / 8) 0 / 2 ^ ((d - 19) % 8))
  where
    go : (b : Bool) (m n : ℕ) → (m % 2 if b else n % 2) < 2
    go true m n = omega arith
    go false m n = omega arith

-- ---- links that are kept lead where they led

module _ (links after x : List ℕ) (k : Keeps links after) (v : ℕ) (z : v ≡ 0 → ⊥) where
  kept_in : (n d s : ℕ) → leads_in n links x d s v → leads_in n after x d s v
  unfolding leads_in
  kept_in zero d s h = h
  kept_in (suc n) d s (inl e) = inl (k.same s (λ q. z (sym e ∙ q)) ∙ e)
  kept_in (suc n) d s (inr l) =
      let e : get_or after s 0 ≡ get_or links s 0 = k.same s (λ q. omega (arith, l.0, q)) in
      inr (rw e (l.0, kept_in n (d + 1) (next_link x d (get_or links s 0)) l.1))

  pub leads_kept : (d s : ℕ) → Leads links x d s v → Leads after x d s v
  leads_kept d s l = record { leads = λ never. l.leads (λ n a. never n (kept_in n d s a)) }

-- ---- a link that leads there; one before others; what is left after one that leads elsewhere; one that leads nowhere

leads_here : (links x : List ℕ) (d s v : ℕ) → get_or links s 0 ≡ v → Leads links x d s v
unfolding leads_in
leads_here links x d s v e = record { leads = λ never. never 1 (inl e) }

on_in : (n : ℕ) (links x : List ℕ) (d s v w : ℕ) → get_or links s 0 ≡ v → 0 < v → leads_in n links x (d + 1) (next_link x d v) w → leads_in (suc n) links x d s w
unfolding leads_in
on_in n links x d s v w e z a = inr (rw e (z, a))

leads_on : (links x : List ℕ) (d s v w : ℕ) → get_or links s 0 ≡ v → (v ≡ 0 → ⊥) → Leads links x (d + 1) (next_link x d v) w → Leads links x d s w
leads_on links x d s v w e z l = record { leads = λ never. l.leads (λ n a. never (suc n) (on_in n links x d s v w e (omega (arith, z)) a)) }

past_in : (n : ℕ) (links x : List ℕ) (d s v w : ℕ) → get_or links s 0 ≡ v → (w ≡ v → ⊥) → leads_in n links x d s w → ((m : ℕ) → leads_in m links x (d + 1) (next_link x d v) w → ⊥) → ⊥
unfolding leads_in
past_in zero links x d s v w e z h never = h
past_in (suc n) links x d s v w e z (inl q) never = z (sym q ∙ e)
past_in (suc n) links x d s v w e z (inr l) never = let m = rw e at l in never n m.1

leads_past : (links x : List ℕ) (d s v w : ℕ) → get_or links s 0 ≡ v → (w ≡ v → ⊥) → Leads links x d s w → Leads links x (d + 1) (next_link x d v) w
leads_past links x d s v w e z l = record { leads = λ never. l.leads (λ n a. past_in n links x d s v w e z a never) }

nowhere_in : (n : ℕ) (links x : List ℕ) (d s w : ℕ) → get_or links s 0 ≡ 0 → (w ≡ 0 → ⊥) → leads_in n links x d s w → ⊥
unfolding leads_in
nowhere_in zero links x d s w e z h = h
nowhere_in (suc n) links x d s w e z (inl q) = z (sym q ∙ e)
nowhere_in (suc n) links x d s w e z (inr l) = let m = l.0 in omega (arith, e, m)

leads_nowhere : (links x : List ℕ) (d s w : ℕ) → get_or links s 0 ≡ 0 → (w ≡ 0 → ⊥) → Leads links x d s w → ⊥
leads_nowhere links x d s w e z l = l.leads (λ n. nowhere_in n links x d s w e z)

-- ---- the walk

-- A name has come to a link at a depth, which leads to the v-th name, counted from 1: where it is one of the tree's, it is led on to it from here.
pub record Walked (bs : List ℕ) (t : Names) (x : List ℕ) (d s v : ℕ) : Type 0 where
  pub here : get_or t.links s 0 ≡ v
  pub deep : (v ≡ 0 → ⊥) → d < v
  pub inside : s < 8192 + 2 * t.count
  pub fits : v ≤ t.count
  pub on : (i : ℕ) → i < t.count → x ≡ name_at bs t i → Leads t.links x d s (i + 1)
  pub trail : (w : ℕ) (after : List ℕ) → Keeps t.links after → Leads after x d s w → Leads after x 0 (first_link (hash x)) w

module _ {bs : List ℕ} {t : Names} (i : IsTree bs t) (x : List ℕ) where
  pub begin : (s v : ℕ) → s ≡ first_link (hash x) → s < 8192 → v ≡ get_or t.links s 0 → Walked bs t x 0 s v
  begin s v e l h = record {
    here = sym h;
    deep = λ z. omega (arith, z);
    inside = omega (arith, l);
    fits = rw h (i.fits s);
    on = λ j f q. rw (e, q) (i.leads j f);
    trail = λ w after k a. rw e at a;
  }

  module _ {d s v : ℕ} (w : Walked bs t x d s v) where
    -- the next link leads to a later name
    pub onward : (v ≡ 0 → ⊥) → (u y : ℕ) → u ≡ next_link x d v → y ≡ get_or t.links u 0 → (y ≡ 0 → ⊥) → v < y
    onward z u y e h n =
        let l = i.later u (λ o. n (h ∙ o)) in
        let b = side_few (hash x) x d in
        omega (arith, l, e, b, h, z)

    -- the link leads to another name
    pub next : (v ≡ 0 → ⊥) → same x (name_at bs t (v - 1)) ≡ false → (u y : ℕ) → u ≡ next_link x d v → y ≡ get_or t.links u 0 → Walked bs t x (d + 1) u y
    next z q u y e h =
        let b = side_few (hash x) x d in
        record {
          here = sym h;
          deep = λ n. let l = i.later u (λ o. n (h ∙ o)) in let m = w.deep z in omega (arith, l, m, e, b, h, z);
          inside = let f = w.fits in omega (arith, e, b, f, z);
          fits = rw h (i.fits u);
          on = λ j f o.
              let other : j + 1 ≡ v → ⊥ = λ c. let g : j ≡ v - 1 = omega (arith, c) in same-differ x (name_at bs t (v - 1)) q (rw g at o) in
              rw e (leads_past t.links x d s v (j + 1) w.here other (w.on j f o));
          trail = λ y' after k l. w.trail y' after k (leads_on after x d s v y' (k.same s (λ n. z (sym w.here ∙ n)) ∙ w.here) z (rw e at l));
        }

  -- it leads nowhere
  pub ends : {d s v : ℕ} → Walked bs t x d s v → v ≡ 0 → Vacant bs t x s
  ends {d} {s} {v} w z = record {
    none = λ j f e. leads_nowhere t.links x d s (j + 1) (w.here ∙ z) (λ q. omega (arith, q)) (w.on j f e);
    free = w.here ∙ z;
    inside = w.inside;
    trail = λ y after k e. w.trail y after k (leads_here after x d s y e);
  }

-- ---- the measure of the walk

pub falls : (v y : ℕ) → (v ≡ 0 → ⊥) → v ≤ 65535 → ((y ≡ 0 → ⊥) → v < y) → (0 if eqb y 0 else 65536 - y) < (0 if eqb v 0 else 65536 - v)
falls v y z l n = rw (ne_eqb v 0 z) (go (eqb y 0) refl)
  where
    go : (b : Bool) → eqb y 0 ≡ b → (0 if b else 65536 - y) < 65536 - v
    go true q = omega (arith, l)
    go false q = let m = n (eqb-false y 0 q) in omega (arith, l, m)
