-- A tree with one name more. For `put`.
use Rattle.std.proofs.Common.{◌≡◌, refl, sym, ap, ◌∙◌, ◌⊎◌, inl, inr, Bool, true, false, List, ℕ, ◌+◌, ◌*◌, ◌<◌, ◌≤◌, arith, eqb, get_or-set_same, get_or-set_other, length, length-set, get_or, set, eqb-true}
use borrow.Author.Tests.{eqb-false}
use Rattle.symbols.specs.Links.{hash, tag, first_link, Leads, Keeps}
use Rattle.symbols.specs.Entry.{place_in, tag_in, length_in, named}
use Rattle.symbols.specs.Tree.{Names, Roomy, IsTree, Vacant, Grows, name_at}
use Rattle.symbols.proofs.Walk.{leads_kept}

-- ---- no name

pub no_names : {t : Names} → Roomy t → t.count ≡ 0 → ((s : ℕ) → get_or t.links s 0 ≡ 0) → (bs : List ℕ) → IsTree bs t
no_names r c z bs = record {
  room = r;
  few = omega (arith, c);
  fits = λ s. rw (z s) (omega arith);
  later = λ s h. absurd (h (z s));
  inside = λ i h. absurd (omega (arith, c, h));
  tagged = λ i h. absurd (omega (arith, c, h));
  distinct = λ i j h. absurd (omega (arith, c, h));
  leads = λ i h. absurd (omega (arith, c, h));
}

-- ---- a list with one word set has at each other place the word it had

set_cases : (l : List ℕ) (i e s : ℕ) → i < length l → (get_or (set l i e) s 0 ≡ get_or l s 0) ⊎ ((s ≡ i) × (get_or (set l i e) s 0 ≡ e))
set_cases l i e s h = go (eqb s i) refl
  where
    go : (a : Bool) → eqb s i ≡ a → (get_or (set l i e) s 0 ≡ get_or l s 0) ⊎ ((s ≡ i) × (get_or (set l i e) s 0 ≡ e))
    go true p = inr (eqb-true s i p, rw (eqb-true s i p) (get_or-set_same l i e 0 h))
    go false p = inl (get_or-set_other l i s e 0 (eqb-false s i p))

-- ---- one name more

module _ {bs : List ℕ} {t : Names} (i : IsTree bs t) {x : List ℕ} {s : ℕ} (n : Vacant bs t x s) (r : t.count < length t.entries) (e : ℕ) (f : place_in e + length_in e ≤ length bs) (q : named bs e ≡ x) (w : tag_in e ≡ tag (hash x)) where
  abbrev after : List ℕ
  after = set t.links s (t.count + 1)

  abbrev new : Names
  new = record { count = t.count + 1; entries = set t.entries t.count e; links = after }

  low : s < length t.links
  low = let a = n.inside in let b = i.room.size in omega (arith, a, b, r)

  here : get_or after s 0 ≡ t.count + 1
  here = get_or-set_same t.links s (t.count + 1) 0 low

  keeps : Keeps t.links after
  keeps = record { same = λ u h. get_or-set_other t.links s u (t.count + 1) 0 (λ o. h (ap (λ (y : ℕ). get_or t.links y 0) o ∙ n.free)) }

  old_entry : (j : ℕ) → j < t.count → get_or (set t.entries t.count e) j 0 ≡ get_or t.entries j 0
  old_entry j h = get_or-set_other t.entries t.count j e 0 (λ o. omega (arith, h, o))

  new_entry : get_or (set t.entries t.count e) t.count 0 ≡ e
  new_entry = get_or-set_same t.entries t.count e 0 r

  fits_here : (u : ℕ) → (get_or after u 0 ≡ get_or t.links u 0) ⊎ ((u ≡ s) × (get_or after u 0 ≡ t.count + 1)) → get_or after u 0 ≤ t.count + 1
  fits_here u (inl o) = let a = i.fits u in omega (arith, o, a)
  fits_here u (inr o) = omega (arith, o.1)

  later_here : (u : ℕ) → (get_or after u 0 ≡ 0 → ⊥) → (get_or after u 0 ≡ get_or t.links u 0) ⊎ ((u ≡ s) × (get_or after u 0 ≡ t.count + 1)) → u + 2 < 8192 + 2 * get_or after u 0
  later_here u h (inl o) = rw o (i.later u (λ z. h (o ∙ z)))
  later_here u h (inr o) = rw o.1 (let a = n.inside in omega (arith, o.0, a))

  inside_here : (j : ℕ) (b : Bool) → eqb j t.count ≡ b → j < t.count + 1 → place_in (get_or (set t.entries t.count e) j 0) + length_in (get_or (set t.entries t.count e) j 0) ≤ length bs
  inside_here j true o h = rw (eqb-true j t.count o, new_entry) f
  inside_here j false o h = let z = eqb-false j t.count o in let l : j < t.count = omega (arith, z, h) in rw (old_entry j l) (i.inside j l)

  tagged_here : (j : ℕ) (b : Bool) → eqb j t.count ≡ b → j < t.count + 1 → tag_in (get_or (set t.entries t.count e) j 0) ≡ tag (hash (named bs (get_or (set t.entries t.count e) j 0)))
  tagged_here j true o h = rw (eqb-true j t.count o, new_entry, q) w
  tagged_here j false o h = let z = eqb-false j t.count o in let l : j < t.count = omega (arith, z, h) in rw (old_entry j l) (i.tagged j l)

  leads_here : (j : ℕ) (b : Bool) → eqb j t.count ≡ b → j < t.count + 1 → Leads after (named bs (get_or (set t.entries t.count e) j 0)) 0 (first_link (hash (named bs (get_or (set t.entries t.count e) j 0)))) (j + 1)
  leads_here j true o h = rw (eqb-true j t.count o, new_entry, q) (n.trail (t.count + 1) after keeps here)
  leads_here j false o h =
      let z = eqb-false j t.count o in
      let l : j < t.count = omega (arith, z, h) in
      rw (old_entry j l) (leads_kept t.links after (name_at bs t j) keeps (j + 1) (λ y. omega (arith, y)) 0 (first_link (hash (name_at bs t j))) (i.leads j l))

  distinct_here : (j k : ℕ) (a : Bool) → eqb j t.count ≡ a → (b : Bool) → eqb k t.count ≡ b → j < t.count + 1 → k < t.count + 1 → name_at bs new j ≡ name_at bs new k → j ≡ k
  distinct_here j k true o true p g h y = eqb-true j t.count o ∙ sym (eqb-true k t.count p)
  distinct_here j k true o false p g h y =
      let z = eqb-false k t.count p in
      let l : k < t.count = omega (arith, z, h) in
      let w = rw (eqb-true j t.count o, new_entry, q, old_entry k l) at y in
      absurd (n.none k l w)
  distinct_here j k false o true p g h y =
      let z = eqb-false j t.count o in
      let l : j < t.count = omega (arith, z, g) in
      let w = rw (eqb-true k t.count p, new_entry, q, old_entry j l) at y in
      absurd (n.none j l (sym w))
  distinct_here j k false o false p g h y =
      let z = eqb-false j t.count o in
      let z' = eqb-false k t.count p in
      let l : j < t.count = omega (arith, z, g) in
      let l' : k < t.count = omega (arith, z', h) in
      i.distinct j k l l' (rw (old_entry j l, old_entry k l') at y)

  pub grown : Grows bs t new x
  grown = record {
    count = refl;
    room = length-set t.entries t.count e;
    kept = old_entry;
    last = ap (named bs) new_entry ∙ q;
    tree = record {
      room = record {
        few = rw (length-set t.entries t.count e) i.room.few;
        size = rw (length-set t.links s (t.count + 1), length-set t.entries t.count e) i.room.size;
      };
      few = rw (length-set t.entries t.count e) (omega (arith, r));
      fits = λ u. fits_here u (set_cases t.links s (t.count + 1) u low);
      later = λ u h. later_here u h (set_cases t.links s (t.count + 1) u low);
      inside = λ j h. inside_here j (eqb j t.count) refl h;
      tagged = λ j h. tagged_here j (eqb j t.count) refl h;
      distinct = λ j k g h y. distinct_here j k (eqb j t.count) refl (eqb k t.count) refl g h y;
      leads = λ j h. leads_here j (eqb j t.count) refl h;
    };
  }
