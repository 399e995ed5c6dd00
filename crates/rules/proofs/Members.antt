-- The values of bounds are the numbers in them, and the members of a set are the values that the set has: they rise, each stands once.
use Rattle.std.proofs.Common.{◌≡◌, refl, sym, ap, ap₂, ◌∙◌, ◌⊎◌, inl, inr, ◌↔◌, Bool, true, false, not, ◌&&◌, ◌||◌, List, [], ◌∷◌, ◌++◌, arith, ℕ, zero, suc, ◌+◌, ◌≤◌, ◌<◌, ℤ, pos, length}
use mathlib.Core.Path.{fun_ext}
use lib.Signed.{le_z, lt_z}
use Rattle.integers.specs.Choice.{◌if◌else◌}
use Rattle.integers.specs.Number.{◌⊕◌, ◌⊖◌, ◌≟◌, min_z, max_z, count, +1}
use Rattle.integers.specs.Lists.{list_of, any}
use Rattle.integers.specs.Bounds.{◌to◌, within, width, values}
use Rattle.integers.specs.declared.Bounds.{Bounds}
use Rattle.integers.proofs.Linear.{◌⊑◌, ◌⊏◌, linear, arith_z, dec⊑}
use Rattle.integers.proofs.Lists.{any-map, all-members}
use Rattle.integers.proofs.Tests.{Says, false-true, says-le, says-lt, says-and, says-within, says-equal, says_any, In, All, Any, Member}
use Rattle.integers.proofs.Sums.{not-less, plus-zero}
use Rattle.models.specs.Meaning.{member}
use Rattle.rules.specs.Parts.{places, least_from, rising, members}
use Rattle.rules.specs.Shared.{keep}

-- ---- lists

-- a number of the list passes the test for it
pub member-passes : (v : ℤ) (xs : List ℤ) → Member v xs → Any (λ x. (x ≟ v) ≡ true) xs
member-passes v xs m = any-map (λ x. v ≡ x) (λ x. (x ≟ v) ≡ true) (λ x e. (says-equal x v).1 (sym e)) xs m

pub keep-member : {A : Type 0} (t : A → Bool) (v : A) (xs : List A) → Member v (keep t xs) ↔ (Member v xs × (t v ≡ true))
keep-member t v [] = (λ h. absurd h, λ h. h.0)
keep-member t v (x ∷ xs) = go (t x) refl (keep-member t v xs)
  where
    go : (b : Bool) → t x ≡ b → (Member v (keep t xs) ↔ (Member v xs × (t v ≡ true))) →
        Member v (x ∷ keep t xs if b else keep t xs) ↔ (((v ≡ x) ⊎ Member v xs) × (t v ≡ true))
    go true e r = (
      λ h. elim h [ inl p ↦ (inl p, rw p e) | inr m ↦ (inr (r.0 m).0, (r.0 m).1) ],
      λ h. elim h.0 [ inl p ↦ inl p | inr m ↦ inr (r.1 (m, h.1)) ],
    )
    go false e r =
        (λ m. (inr (r.0 m).0, (r.0 m).1), λ h. elim h.0 [ inl p ↦ false-true (sym e ∙ (rw p at h.1)) | inr m ↦ r.1 (m, h.1) ])

keep_append : {A : Type 0} (t : A → Bool) (xs ys : List A) → keep t (xs ++ ys) ≡ keep t xs ++ keep t ys
keep_append t [] ys = refl
keep_append {A} t (x ∷ xs) ys = go (t x) (keep_append t xs ys)
  where
    go : (b : Bool) → keep t (xs ++ ys) ≡ keep t xs ++ keep t ys →
        (x ∷ keep t (xs ++ ys) if b else keep t (xs ++ ys)) ≡ (x ∷ keep t xs if b else keep t xs) ++ keep t ys
    go true e = ap {B = List A} (λ zs. x ∷ zs) e
    go false e = e

keep-none : {A : Type 0} (t : A → Bool) (xs : List A) → ((x : A) → Member x xs → ¬ (t x ≡ true)) → keep t xs ≡ []
keep-none t [] h = refl
keep-none t (x ∷ xs) h = go (t x) (h x (inl refl)) (keep-none t xs (λ y m. h y (inr m)))
  where
    go : (b : Bool) → ¬ (b ≡ true) → keep t xs ≡ [] → (x ∷ keep t xs if b else keep t xs) ≡ []
    go true n e = absurd (n refl)
    go false n e = e

-- what passes a test and what does not is everything
pub keep-both : {A : Type 0} (t : A → Bool) (xs : List A) → length (keep t xs) + length (keep (λ x. not (t x)) xs) ≡ length xs
keep-both t [] = omega arith
keep-both t (x ∷ xs) = go (t x) (keep-both t xs)
  where
    go : (b : Bool) → length (keep t xs) + length (keep (λ x. not (t x)) xs) ≡ length xs →
        length (x ∷ keep t xs if b else keep t xs) + length (x ∷ keep (λ x. not (t x)) xs if not b else keep (λ x. not (t x)) xs) ≡ suc (length xs)
    go true h = omega arith
    go false h = omega arith

-- what passes one of two tests is no more than what passes each
keep-or : {A : Type 0} (t u : A → Bool) (xs : List A) → length (keep (λ x. t x || u x) xs) ≤ length (keep t xs) + length (keep u xs)
keep-or t u [] = omega arith
keep-or {A} t u (x ∷ xs) = go (t x) (u x) (keep-or t u xs)
  where
    K : List A
    K = keep (λ y. t y || u y) xs

    go : (b c : Bool) → length K ≤ length (keep t xs) + length (keep u xs) →
        length (x ∷ K if b || c else K) ≤ length (x ∷ keep t xs if b else keep t xs) + length (x ∷ keep u xs if c else keep u xs)
    go true true h = omega arith
    go true false h = omega arith
    go false true h = omega arith
    go false false h = omega arith

-- ---- lists by place

list_of-member : {A : Type 0} (v : A) (f : ℕ → A) (n : ℕ) → Member v (list_of f n) ↔ ((k : ℕ) × ((k < n) × (v ≡ f k)))
unfolding list_of
list_of-member v f zero = (λ h. absurd h, λ h. let k : h.0 < 0 = h.1.0 in omega arith)
list_of-member v f (suc n) =
    let r = list_of-member v (λ k. f (suc k)) n in
    (λ h. elim h [ inl e ↦ (0, (omega arith, e)) | inr m ↦ there (r.0 m) ], λ h. elim (back h) [ inl e ↦ inl e | inr k ↦ inr (r.1 k) ])
  where
    there : ((k : ℕ) × ((k < n) × (v ≡ f (suc k)))) → (k : ℕ) × ((k < suc n) × (v ≡ f k))
    there (k, (h, e)) = (suc k, (omega arith, e))

    back : ((k : ℕ) × ((k < suc n) × (v ≡ f k))) → (v ≡ f 0) ⊎ ((k : ℕ) × ((k < n) × (v ≡ f (suc k))))
    back (zero, (h, e)) = inl e
    back (suc k, (h, e)) = inr (k, (omega arith, e))

-- the first m, and the others
list_of-append : {A : Type 0} (f g : ℕ → A) (m n all : ℕ) → all ≡ m + n → ((k : ℕ) → f (m + k) ≡ g k) → list_of f all ≡ list_of f m ++ list_of g n
unfolding list_of
list_of-append f g zero n all e h =
    let same : all ≡ n = omega arith in
    ap₂ list_of (fun_ext (λ k. let z : k ≡ 0 + k = omega arith in ap f z ∙ h k)) same
list_of-append f g (suc m) n zero e h = absurd (omega arith)
list_of-append {A} f g (suc m) n (suc all) e h =
    let next : (k : ℕ) → f (suc (m + k)) ≡ g k = λ k. let z : suc (m + k) ≡ suc m + k = omega arith in ap f z ∙ h k in
    ap {B = List A} (λ xs. f 0 ∷ xs) (list_of-append (λ k. f (suc k)) g m n all (omega arith) next)

-- ---- the values of bounds

pub values-member : (B : Bounds) (v : ℤ) → Member v (values B) ↔ In B v
unfolding values width
values-member B v =
    let m = list_of-member v (λ k. B.lower ⊕ pos k) (count (B.upper ⊖ B.lower ⊕ +1)) in
    let i = inside B.lower B.upper v in
    (λ h. let r = m.0 h in i r.0 r.1.0 r.1.1, λ h. m.1 (count (v ⊖ B.lower), placed B.lower B.upper v h))
  where
    inside : (l u v : ℤ) (k : ℕ) → k < count (u ⊖ l ⊕ +1) → v ≡ l ⊕ pos k → (l ⊑ v) × (v ⊑ u)
    inside = simp linear (omega arith)

    placed : (l u v : ℤ) → (l ⊑ v) × (v ⊑ u) → (count (v ⊖ l) < count (u ⊖ l ⊕ +1)) × (v ≡ l ⊕ pos (count (v ⊖ l)))
    placed = simp linear (omega arith)

-- those below v, v, and those above it
values-split : (l u v : ℤ) → l ⊑ v → v ⊑ u → values (l to u) ≡ values (l to v ⊖ +1) ++ v ∷ values (v ⊕ +1 to u)
unfolding values width list_of
values-split l u v h k =
    let below = count (v ⊖ +1 ⊖ l ⊕ +1) in
    let above = count (u ⊖ (v ⊕ +1) ⊕ +1) in
    list_of-append (λ j. l ⊕ pos j) (λ j. v ⊕ pos j) below (suc above) _ (sizes l u v h k) (λ j. place l v j h)
    ∙ ap₂ (λ x f. list_of (λ j. l ⊕ pos j) below ++ x ∷ list_of f above) (plus-zero v) (fun_ext (next v))
  where
    sizes : (l u v : ℤ) → l ⊑ v → v ⊑ u → count (u ⊖ l ⊕ +1) ≡ count (v ⊖ +1 ⊖ l ⊕ +1) + suc (count (u ⊖ (v ⊕ +1) ⊕ +1))
    sizes = simp linear (omega arith)

    place : (l v : ℤ) (j : ℕ) → l ⊑ v → l ⊕ pos (count (v ⊖ +1 ⊖ l ⊕ +1) + j) ≡ v ⊕ pos j
    place = simp linear (omega arith)

    next : (v : ℤ) (j : ℕ) → v ⊕ pos (suc j) ≡ v ⊕ +1 ⊕ pos j
    next = simp linear (omega arith)

values-none : (t : ℤ → Bool) (B : Bounds) → ((w : ℤ) → In B w → ¬ (t w ≡ true)) → keep t (values B) ≡ []
values-none t B h = keep-none t (values B) (λ w m. h w ((values-member B w).0 m))

-- the first value that passes a test
values-first : (t : ℤ → Bool) (l u v : ℤ) → l ⊑ v → v ⊑ u → t v ≡ true → ((w : ℤ) → l ⊑ w → w ⊏ v → ¬ (t w ≡ true)) →
    keep t (values (l to u)) ≡ v ∷ keep t (values (v ⊕ +1 to u))
values-first t l u v h k e n =
    ap (keep t) (values-split l u v h k)
    ∙ keep_append t (values (l to v ⊖ +1)) (v ∷ values (v ⊕ +1 to u))
    ∙ rw (values-none t (l to v ⊖ +1) (λ w i. n w i.0 (below w v i.1)), e)
  where
    below : (w v : ℤ) → w ⊑ v ⊖ +1 → w ⊏ v
    below = simp linear (omega arith)

-- ---- the members of a set

-- v is the least of the numbers that are not below `from`, or `above` if that is not above it
abbrev Least : List ℤ → ℤ → ℤ → ℤ → Type 0
Least S from above v = (v ⊑ above) × All (λ w. from ⊑ w → v ⊑ w) S × ((v ≡ above) ⊎ (Member v S × (from ⊑ v)))

least : (S : List ℤ) (from above : ℤ) → Least S from above (least_from S from above)
unfolding least_from
least [] from above = (omega arith_z, tt, inl refl)
least (x ∷ S) from above = go (le_z from x && lt_z x above) (says-and (says-le from x) (says-lt x above)) (least S from)
  where
    go : (b : Bool) → Says b ((from ⊑ x) × (x ⊏ above)) → ((a : ℤ) → Least S from a (least_from S from a)) →
        Least (x ∷ S) from above (least_from S from (x if b else above))
    go true s r =
        let h = s.0 refl in
        let p = r x in
        let lower : from ⊑ x = h.0 in
        let upper : x ⊏ above = h.1 in
        let under : least_from S from x ⊑ x = p.0 in
        (omega arith_z, (λ k. under, p.1), elim p.2 [ inl e ↦ inr (inl e, rw e lower) | inr m ↦ inr (inr m.0, m.1) ])
    go false s r =
        let p = r above in
        let under : least_from S from above ⊑ above = p.0 in
        let here : from ⊑ x → least_from S from above ⊑ x =
        λ k. let a : above ⊑ x = not-less x above (λ j. false-true (s.1 (k, j))) in omega arith_z in
        (under, (here, p.1), elim p.2 [ inl e ↦ inl e | inr m ↦ inr (inr m.0, m.1) ])

pub says-member : (v : ℤ) (S : List ℤ) → Says (member v S) (Member v S)
unfolding member
says-member v S = says_any (λ w. v ≟ w) (λ w. v ≡ w) (says-equal v) S

-- no value stands twice
keep-once : (s : ℤ) (B : Bounds) → length (keep (λ v. v ≟ s) (values B)) ≤ 1
keep-once s B = go (dec⊑ B.lower s) (dec⊑ s B.upper)
  where
    t : ℤ → Bool
    t v = v ≟ s

    none : ¬ (In B s) → length (keep t (values B)) ≤ 1
    none n = rw (values-none t B (λ w i e. n (rw ((says-equal w s).0 e) at i))) (omega arith)

    go : Dec (B.lower ⊑ s) → Dec (s ⊑ B.upper) → length (keep t (values B)) ≤ 1
    go (yes h) (yes k) =
        rw (
          values-first t B.lower B.upper s h k ((says-equal s s).1 refl) (λ w i j e. let d : w ≡ s = (says-equal w s).0 e in omega arith_z),
          values-none t (s ⊕ +1 to B.upper) (λ w i e. after w s i.0 ((says-equal w s).0 e)),
        )
        (omega arith)
      where
        after : (w s : ℤ) → s ⊕ +1 ⊑ w → w ≡ s → ⊥
        after = simp linear (omega arith)
    go (no n) k = none (λ i. n i.0)
    go (yes h) (no n) = none (λ i. n i.1)

-- the one value that is l
pub keep_one : (B : Bounds) (l : ℤ) → In B l → keep (λ v. l ≟ v) (values B) ≡ l ∷ []
keep_one B l h =
    rw (
      values-first (λ v. l ≟ v) B.lower B.upper l h.0 h.1 ((says-equal l l).1 refl) (λ w i j e. let d : l ≡ w = (says-equal l w).0 e in omega arith_z),
      values-none (λ v. l ≟ v) (l ⊕ +1 to B.upper) (λ w i e. after w l i.0 ((says-equal l w).0 e)),
    )
  where
    after : (w s : ℤ) → s ⊕ +1 ⊑ w → s ≡ w → ⊥
    after = simp linear (omega arith)

keep-length : (S : List ℤ) (B : Bounds) → length (keep (λ v. member v S) (values B)) ≤ length S
unfolding member any
keep-length [] B = rw (values-none (λ v. false) B (λ w i e. false-true e)) (omega arith)
keep-length (s ∷ S) B = omega (arith, keep-or (λ v. v ≟ s) (λ v. member v S) (values B), keep-once s B, keep-length S B)

rising-values : (S : List ℤ) (u : ℤ) (k : ℕ) (l : ℤ) → length (keep (λ v. member v S) (values (l to u))) ≤ k →
    rising S u k l ≡ keep (λ v. member v S) (values (l to u))
unfolding rising
rising-values S u zero l h = go (keep (λ v. member v S) (values (l to u))) h
  where
    go : (xs : List ℤ) → length xs ≤ 0 → [] ≡ xs
    go [] h = refl
    go (x ∷ xs) h = absurd (omega arith)
rising-values S u (suc k) l h = go (lt_z u v) (says-lt u v) (rising-values S u k (v ⊕ +1))
  where
    t : ℤ → Bool
    t v = member v S

    v : ℤ
    v = least_from S l (u ⊕ +1)

    p : Least S l (u ⊕ +1) v
    p = least S l (u ⊕ +1)

    first : (w : ℤ) → l ⊑ w → t w ≡ true → v ⊑ w
    first w i e = (all-members (λ w. l ⊑ w → v ⊑ w) S).0 p.1 w ((says-member w S).0 e) i

    past : (u v : ℤ) → ¬ (u ⊏ v) → v ≡ u ⊕ +1 → ⊥
    past = simp linear (omega arith)

    found : ¬ (u ⊏ v) → Member v S × (l ⊑ v)
    found n = elim p.2 [ inl e ↦ absurd (past u v n e) | inr m ↦ m ]

    go : (b : Bool) → Says b (u ⊏ v) → (length (keep t (values (v ⊕ +1 to u))) ≤ k → rising S u k (v ⊕ +1) ≡ keep t (values (v ⊕ +1 to u))) →
        ([] if b else v ∷ rising S u k (v ⊕ +1)) ≡ keep t (values (l to u))
    go true s r = sym (values-none t (l to u) (λ w i e. let c : u ⊏ v = s.0 refl in let d : v ⊑ w = first w i.0 e in omega arith_z))
    go false s r =
        let n : ¬ (u ⊏ v) = λ c. false-true (s.1 c) in
        let m = found n in
        let e = values-first t l u v m.1 (not-less u v n) ((says-member v S).1 m.0) (λ w i c e. let d : v ⊑ w = first w i e in omega arith_z) in
        let j : length (keep t (values (l to u))) ≤ suc k = h in
        ap {B = List ℤ} (λ xs. v ∷ xs) (r (omega (arith, ap length e))) ∙ sym e

pub members-values : (S : List ℤ) (B : Bounds) → members S B ≡ keep (λ v. member v S) (values B)
unfolding members
members-values S B = rising-values S B.upper (length S) B.lower (keep-length S B)

pub members-length : (S : List ℤ) (B : Bounds) → length (members S B) ≤ length S
members-length S B = rw (members-values S B) (keep-length S B)

pub members-member : (S : List ℤ) (B : Bounds) (v : ℤ) → Member v (members S B) ↔ (In B v × Member v S)
members-member S B v =
    let k = keep-member (λ v. member v S) v (values B) in
    let b = values-member B v in
    let s = says-member v S in
    rw (members-values S B) (λ h. (b.0 (k.0 h).0, s.0 (k.0 h).1), λ h. k.1 (b.1 h.0, s.1 h.1))

-- ---- the values of bounds that lie in others: those of both

pub values-empty : (l u : ℤ) → u ⊏ l → values (l to u) ≡ []
unfolding values width list_of
values-empty l u h = rw (none l u h)
  where
    none : (l u : ℤ) → u ⊏ l → count (u ⊖ l ⊕ +1) ≡ 0
    none = simp linear (omega arith)

pub values_first_one : (l u : ℤ) → l ⊑ u → values (l to u) ≡ l ∷ values (l ⊕ +1 to u)
values_first_one l u h = values-split l u l (omega arith_z) h ∙ rw (values-empty l (l ⊖ +1) (less l))
  where
    less : (l : ℤ) → l ⊖ +1 ⊏ l
    less = simp linear (omega arith)

keep-within : (C : Bounds) (k : ℕ) (l u : ℤ) → count (u ⊖ l ⊕ +1) ≡ k → keep (within C) (values (l to u)) ≡ values (max_z C.lower l to min_z C.upper u)
keep-within C zero l u e = rw (values-empty l u (above l u e), values-empty (max_z C.lower l) (min_z C.upper u) (still C.lower C.upper l u (above l u e)))
  where
    above : (l u : ℤ) → count (u ⊖ l ⊕ +1) ≡ 0 → u ⊏ l
    above = simp linear (omega arith)

    still : (c d l u : ℤ) → u ⊏ l → min_z d u ⊏ max_z c l
    still = simp linear (omega arith)
keep-within C (suc k) l u e = rw (values_first_one l u (some l u k e)) (go (within C l) (says-within C l) (keep-within C k (l ⊕ +1) u (fewer l u k e)))
  where
    c : ℤ
    c = C.lower

    d : ℤ
    d = C.upper

    some : (l u : ℤ) (k : ℕ) → count (u ⊖ l ⊕ +1) ≡ suc k → l ⊑ u
    some = simp linear (omega arith)

    fewer : (l u : ℤ) (k : ℕ) → count (u ⊖ l ⊕ +1) ≡ suc k → count (u ⊖ (l ⊕ +1) ⊕ +1) ≡ k
    fewer = simp linear (omega arith)

    here : (c d l u : ℤ) → l ⊑ u → c ⊑ l → l ⊑ d → (max_z c l ≡ l) × (max_z c (l ⊕ +1) ≡ l ⊕ +1) × (l ⊑ min_z d u)
    here = simp linear (omega arith)

    early : (c l : ℤ) → l ⊏ c → max_z c (l ⊕ +1) ≡ max_z c l
    early = simp linear (omega arith)

    late : (c d l u : ℤ) → d ⊏ l → (min_z d u ⊏ max_z c l) × (min_z d u ⊏ max_z c (l ⊕ +1))
    late = simp linear (omega arith)

    not-below : (c l : ℤ) → ¬ (c ⊑ l) → l ⊏ c
    not-below = simp linear (omega arith)

    tail : List ℤ
    tail = keep (within C) (values (l ⊕ +1 to u))

    go : (b : Bool) → Says b (In C l) → tail ≡ values (max_z c (l ⊕ +1) to min_z d u) → (l ∷ tail if b else tail) ≡ values (max_z c l to min_z d u)
    go true s r =
        let h = here c d l u (some l u k e) (s.0 refl).0 (s.0 refl).1 in
        ap {B = List ℤ} (λ xs. l ∷ xs) (rw h.1 at r) ∙ sym (rw h.0 (values_first_one l (min_z d u) h.2))
    go false s r = outside (dec⊑ c l) (dec⊑ l d)
      where
        outside : Dec (c ⊑ l) → Dec (l ⊑ d) → tail ≡ values (max_z c l to min_z d u)
        outside (yes p) (yes q) = false-true (s.1 (p, q))
        outside (no n) q = rw (early c l (not-below c l n)) at r
        outside (yes p) (no n) =
            let h = late c d l u (not-below l d n) in
            r ∙ rw (values-empty (max_z c (l ⊕ +1)) (min_z d u) h.1, values-empty (max_z c l) (min_z d u) h.0)

-- 24, 25: the places of a list that an index can have are its values that are places
pub places-kept : (B : Bounds) (n : ℕ) → keep (within (+1 to pos n)) (values B) ≡ values (places B n)
unfolding places
places-kept B n = keep-within (+1 to pos n) _ B.lower B.upper refl

-- ---- each stands once

abbrev pub Distinct : {A : Type 0} → List A → Type 0
Distinct [] = Unit {0}
Distinct (x ∷ xs) = ¬ (Member x xs) × Distinct xs

list_of_distinct : {A : Type 0} (f : ℕ → A) → ((i j : ℕ) → i < j → ¬ (f i ≡ f j)) → (n : ℕ) → Distinct (list_of f n)
unfolding list_of
list_of_distinct f h zero = tt
list_of_distinct f h (suc n) = (
  λ m. let r = (list_of-member (f 0) (λ k. f (suc k)) n).0 m in h 0 (suc r.0) (omega arith) r.1.1,
  list_of_distinct (λ k. f (suc k)) (λ i j l. h (suc i) (suc j) (omega arith)) n,
)

pub values_distinct : (B : Bounds) → Distinct (values B)
unfolding values
values_distinct B = list_of_distinct (λ k. B.lower ⊕ pos k) (apart B.lower) (width B)
  where
    apart : (l : ℤ) (i j : ℕ) → i < j → ¬ (l ⊕ pos i ≡ l ⊕ pos j)
    apart = simp linear (omega arith)

keep_distinct : {A : Type 0} (t : A → Bool) (xs : List A) → Distinct xs → Distinct (keep t xs)
keep_distinct t [] d = tt
keep_distinct t (x ∷ xs) d = go (t x) (keep_distinct t xs d.1)
  where
    go : (b : Bool) → Distinct (keep t xs) → Distinct (x ∷ keep t xs if b else keep t xs)
    go true r = (λ m. d.0 ((keep-member t x xs).0 m).0, r)
    go false r = r

pub members_distinct : (S : List ℤ) (B : Bounds) → Distinct (members S B)
members_distinct S B = rw (members-values S B) (keep_distinct (λ v. member v S) (values B) (values_distinct B))
