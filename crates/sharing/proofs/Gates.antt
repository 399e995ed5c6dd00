-- Products of a variable and a one-hot bit for each label: their sum is the value of the chosen label's variable.
use Rattle.std.proofs.Common.{◌≡◌, refl, sym, ap, ap₂, ◌∙◌, subst, ◌↔◌, Bool, true, List, [], ◌∷◌, ◌++◌, map, append_assoc, arith, ℕ, zero, suc, ◌+◌, ℤ, pos, length, length-append, get_or-append-add}
use mathlib.Core.Path.{fun_ext}
use mathlib.Core.List.{zip_with}
use lib.ListN.{length-map}
use Rattle.integers.specs.Number.{◌⊗◌}
use Rattle.integers.specs.Terms.{Valuation, value}
use Rattle.integers.specs.Bounds.{◌to◌}
use Rattle.integers.specs.declared.Bounds.{Bounds}
use Rattle.integers.proofs.Linear.{linear}
use Rattle.integers.proofs.Bits.{Bit, to-bit, bits as zero_one}
use Rattle.integers.proofs.Tests.{In, All, Any}
use Rattle.rules.specs.Parts.{Z, bits, one, one_bit, chosen, products}
use Rattle.rules.specs.Pick.{first_bit, gated_pick}
use Rattle.sharing.proofs.Good.{Sat, see, Each, Keeps, Are}
use Rattle.rules.proofs.Lengths.{bits-length}
use Rattle.sharing.proofs.OneHot.{bit_sum, From, from_zero, from-head, from_tail, chosen-law, Chooses, one_hot_sound, first_bit-length, one_hot_complete, with-bit}

-- ---- lists in two parts

pub each_append : {A : Type 0} (P : A → ℤ → Type 0) (xs ys : List A) (α γ : Valuation) → From (length xs) α γ →
    Each P (xs ++ ys) α ↔ (Each P xs α × Each P ys γ)
each_append P [] ys α γ h =
    let e : α ≡ γ = fun_ext (λ j. let z : j ≡ 0 + j = omega arith in ap α z ∙ h j) in
    (λ k. (tt, subst (Each P ys) e k), λ k. subst (Each P ys) (sym e) k.1)
each_append P (x ∷ xs) ys α γ h =
    let r = each_append P xs ys (λ j. α (suc j)) γ (λ j. let z : suc (length xs + j) ≡ suc (length xs) + j = omega arith in ap α z ∙ h j) in
    (λ k. ((k.0, (r.0 k.1).0), (r.0 k.1).1), λ k. (k.0.0, r.1 (k.0.1, k.1)))

pub keeps-append : (Bs Cs : List Bounds) (α γ : Valuation) → From (length Bs) α γ → Keeps (Bs ++ Cs) α ↔ (Keeps Bs α × Keeps Cs γ)
keeps-append = each_append (λ B v. In B v)

pub are-append : (xs ys : List ℤ) (α γ : Valuation) → From (length xs) α γ → Are (xs ++ ys) α ↔ (Are xs α × Are ys γ)
are-append = each_append (λ x v. v ≡ x)

-- a list of as many values that are those of the other is the other
pub are-value : (xs ys : List ℤ) → length xs ≡ length ys → Are xs (value ys) → ys ≡ xs
unfolding value
are-value [] [] e h = refl
are-value [] (y ∷ ys) e h = absurd (omega arith)
are-value (x ∷ xs) [] e h = absurd (omega arith)
are-value (x ∷ xs) (y ∷ ys) e h = ap₂ (λ z zs. z ∷ zs) h.0 (are-value xs ys (omega arith) h.1)

pub from-append : (vs ws : List ℤ) (n : ℕ) → length vs ≡ n → From n (value (vs ++ ws)) (value ws)
unfolding value
from-append vs ws n e j = rw (← e) (get_or-append-add vs ws j (pos 0))

-- ---- the products

-- each δ is the label's value × its bit γ
abbrev Gated : {A : Type 0} → (A → ℤ) → List A → Valuation → Valuation → Type 0
Gated f [] γ δ = Unit {0}
Gated f (l ∷ ls) γ δ = (δ zero ≡ f l ⊗ γ zero) × Gated f ls (λ j. γ (suc j)) (λ j. δ (suc j))

pub products-law : {A : Type 0} (x : A → ℕ) (ls : List A) (k n : ℕ) (σ α γ δ : Valuation) → From k α γ → From n α δ →
    All (Sat (see σ α)) (products x ls k n) ↔ Gated (λ l. σ (x l)) ls γ δ
unfolding products
products-law x [] k n σ α γ δ p q = (λ u. u, λ u. u)
products-law x (l ∷ ls) k n σ α γ δ p q =
    let r = products-law x ls (suc k) (suc n) σ α (λ j. γ (suc j)) (λ j. δ (suc j)) (from_tail k α γ p) (from_tail n α δ q) in
    rw (from-head k α γ p, from-head n α δ q) (λ g. (g.0, r.0 g.1), λ g. (g.0, r.1 g.1))

pub gated-sum : {A : Type 0} (f : A → ℤ) (ls : List A) (γ δ : Valuation) → Gated f ls γ δ → bit_sum one ls δ ≡ bit_sum f ls γ
gated-sum f [] γ δ g = refl
gated-sum f (l ∷ ls) γ δ g = with-bit _ _ _ _ g.0 (gated-sum f ls (λ j. γ (suc j)) (λ j. δ (suc j)) g.1)

-- Σ of the products − m = 0: m is the chosen label's variable
pub gates-at : {A : Type 0} (x : A → ℕ) (ls : List A) (n m : ℕ) (σ α : Valuation) (l : A) → Chooses ls α l → All (Sat (see σ α)) (products x ls 0 n) →
    Sat (see σ α) (chosen one ls n m) ↔ (σ (x l) ≡ σ m)
gates-at x ls n m σ α l c g =
    let δ : Valuation = λ j. α (n + j) in
    rw (← (gated-sum (λ l. σ (x l)) ls α δ ((products-law x ls 0 n σ α α δ (from_zero α) (λ j. refl)).0 g) ∙ c.1 (λ l. σ (x l))))
    (chosen-law one ls n m σ α δ (λ j. refl))

-- ---- the auxiliaries: the bits, then the products

module _ {A : Type 0} (B : A → Bounds) (ls : List A) where
  abbrev pub gate_bounds : List Bounds
  gate_bounds = bits ls ++ map (λ l. Z (B l)) ls

  pub gates-keep : (α γ : Valuation) → From (length ls) α γ → Keeps gate_bounds α ↔ (Keeps (bits ls) α × Keeps (map (λ l. Z (B l)) ls) γ)
  gates-keep α γ h = keeps-append (bits ls) (map (λ l. Z (B l)) ls) α γ (λ j. ap (λ n. α (n + j)) (bits-length ls) ∙ h j)

  pub gates-sound : (σ α : Valuation) → Keeps gate_bounds α → Sat (see σ α) (one_bit ls) → (l : A) × Chooses ls α l
  gates-sound σ α k s = one_hot_sound ls σ α ((gates-keep α (λ j. α (length ls + j)) (λ j. refl)).0 k).0 s

pub gate_in : (b : ℤ) → Bit b → (l u x : ℤ) → In (l to u) x → In (Z (l to u)) (x ⊗ b)
unfolding Z
gate_in = simp zero_one (simp linear (omega arith))

-- products of any bits
gated : {A : Type 0} (f : A → ℤ) (B : A → Bounds) (ls : List A) (bs more rest : List ℤ) → length bs ≡ length ls → All (λ l. In (B l) (f l)) ls →
    Keeps (bits ls) (value (bs ++ more)) → let δ = value (zip_with (λ l b. f l ⊗ b) ls bs ++ rest) in
    Gated f ls (value (bs ++ more)) δ × Keeps (map (λ l. Z (B l)) ls) δ
unfolding bits value zip_with
gated f B [] bs more rest e h k = (tt, tt)
gated f B (l ∷ ls) [] more rest e h k = absurd (omega arith)
gated f B (l ∷ ls) (b ∷ bs) more rest e h k =
    let r = gated f B ls bs more rest (omega arith) h.1 k.1 in
    ((refl, r.0), (gate_in b (to-bit b k.0.0 k.0.1) (B l).lower (B l).upper (f l) h.0, r.1))

-- the picks keep their bounds, satisfy the products, and choose a label that passes the test
pub gates-complete : {A : Type 0} (x : A → ℕ) (t : A → Bool) (ls : List A) (β : ℕ → Bounds) (σ : Valuation) (rest : List ℤ) →
    All (λ l. In (β (x l)) (σ (x l))) ls → Any (λ l. t l ≡ true) ls → let α = value (gated_pick (λ l. σ (x l)) t ls ++ rest) in
    Keeps (gate_bounds (λ l. β (x l)) ls) α × All (Sat (see σ α)) (products x ls 0 (length ls)) × ((l : A) × ((t l ≡ true) × Chooses ls α l))
unfolding gated_pick
gates-complete {A} x t ls β σ rest h a =
    let f : A → ℤ = λ l. σ (x l) in
    let zs = zip_with (λ l b. f l ⊗ b) ls (first_bit t ls) in
    let δ = value (zs ++ rest) in
    let α = value (first_bit t ls ++ (zs ++ rest)) in
    let p = one_hot_complete t ls (zs ++ rest) a in
    let g = gated f (λ l. β (x l)) ls (first_bit t ls) (zs ++ rest) rest (first_bit-length t ls) h p.0 in
    let q : From (length ls) α δ = from-append (first_bit t ls) (zs ++ rest) (length ls) (first_bit-length t ls) in
    rw append_assoc
    ((gates-keep (λ l. β (x l)) ls α δ q).1 (p.0, g.1), (products-law x ls 0 (length ls) σ α α δ (from_zero α) q).1 g.0, p.1)

zip_with_length : {A : Type 0} (g : A → ℤ → ℤ) (ls : List A) (bs : List ℤ) → length bs ≡ length ls → length (zip_with g ls bs) ≡ length ls
unfolding zip_with
zip_with_length g [] bs e = refl
zip_with_length g (l ∷ ls) [] e = absurd (omega arith)
zip_with_length g (l ∷ ls) (b ∷ bs) e = ap suc (zip_with_length g ls bs (omega arith))

pub gates-filled : {A : Type 0} (f : A → ℤ) (t : A → Bool) (B : A → Bounds) (ls : List A) → length (gated_pick f t ls) ≡ length (gate_bounds B ls)
unfolding gated_pick
gates-filled f t B ls =
    let z = zip_with_length (λ l b. f l ⊗ b) ls (first_bit t ls) (first_bit-length t ls) in
    simp (length-append, first_bit-length, bits-length, length-map, z)

-- the products of bits that are the picks are the picks
gated-are : {A : Type 0} (f : A → ℤ) (ls : List A) (bs : List ℤ) (γ δ : Valuation) → length bs ≡ length ls → Gated f ls γ δ → Are bs γ →
    Are (zip_with (λ l b. f l ⊗ b) ls bs) δ
unfolding zip_with
gated-are f [] bs γ δ e g h = tt
gated-are f (l ∷ ls) [] γ δ e g h = absurd (omega arith)
gated-are f (l ∷ ls) (b ∷ bs) γ δ e g h =
    (g.0 ∙ ap (λ x. f l ⊗ x) h.0, gated-are f ls bs (λ j. γ (suc j)) (λ j. δ (suc j)) (omega arith) g.1 h.1)

pub gates-are : {A : Type 0} (x : A → ℕ) (t : A → Bool) (ls : List A) (σ α : Valuation) → All (Sat (see σ α)) (products x ls 0 (length ls)) →
    Are (first_bit t ls) α → Are (gated_pick (λ l. σ (x l)) t ls) α
unfolding gated_pick
gates-are x t ls σ α g h =
    let δ : Valuation = λ j. α (length ls + j) in
    let p = (products-law x ls 0 (length ls) σ α α δ (from_zero α) (λ j. refl)).0 g in
    (are-append (first_bit t ls) _ α δ (λ j. ap (λ n. α (n + j)) (first_bit-length t ls))).1
    (h, gated-are (λ l. σ (x l)) ls (first_bit t ls) α δ (first_bit-length t ls) p h)
