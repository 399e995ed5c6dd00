-- What several rules share: Z, L and U, products of bounds, halves, one-hot bits, the members of a set.
use Rattle.std.specs.Prelude.{◌&&◌, List, [], ◌∷◌, ◌++◌, map, ℕ, zero, suc, ◌-◌, ◌/◌, ℤ, pos, length, get_or}
use Rattle.std.specs.Int.Signed.{le_z, lt_z}
use Rattle.integers.specs.Choice.{◌if◌else◌}
use Rattle.integers.specs.Number.{◌⊕◌, ◌⊖◌, ◌⊗◌, min_z, max_z, count, +0, +1, -1}
use Rattle.integers.specs.Bounds.{◌to◌, bit}
use Rattle.integers.specs.Terms.{Term, ◌·◌}
use Rattle.integers.specs.declared.Bounds.{Bounds}
use Rattle.rowsystems.specs.Row.{Row, sum≤0, sum=0, product, rename_terms}
use Rattle.rules.specs.Block.{Ref, source, aux}

-- "Z(v) means bounds min(0, lo v) and max(0, hi v)"
unfoldable pub Z : Bounds → Bounds
Z B = min_z +0 B.lower to max_z +0 B.upper

-- 7: "least and largest of the four end products"
unfoldable pub end_products : Bounds → Bounds → Bounds
end_products A B =
    min_z (min_z (A.lower ⊗ B.lower) (A.lower ⊗ B.upper)) (min_z (A.upper ⊗ B.lower) (A.upper ⊗ B.upper))
    to max_z (max_z (A.lower ⊗ B.lower) (A.lower ⊗ B.upper)) (max_z (A.upper ⊗ B.lower) (A.upper ⊗ B.upper))

-- "L and U are the least and largest of Σ as×bs − c over the bounds (000, 3.1.12), each term taken by itself."
unfoldable pub extreme : (ℤ → ℤ → ℤ) → (ℕ → Bounds) → List (Term ℕ) → ℤ
extreme pick β [] = +0
extreme pick β (t ∷ ts) =
    pick (t.coefficient ⊗ (β t.variable).lower) (t.coefficient ⊗ (β t.variable).upper) ⊕ extreme pick β ts

unfoldable pub L : (ℕ → Bounds) → List (Term ℕ) → ℤ → ℤ
L β asbs c = extreme min_z β asbs ⊖ c

unfoldable pub U : (ℕ → Bounds) → List (Term ℕ) → ℤ → ℤ
U β asbs c = extreme max_z β asbs ⊖ c

-- 23: "(n−1)/2 rounded down, 0 for an empty list"
unfoldable pub half_less : ℕ → ℕ
half_less n = (n - 1) / 2

-- x − y ≤ 0, x − y = 0
infix 80 ◌─◌≤0 ◌─◌=0
unfoldable pub ◌─◌≤0 : Ref → Ref → Row Ref
x ─ y ≤0 = sum≤0 (+1 · x ∷ -1 · y ∷ []) +0

unfoldable pub ◌─◌=0 : Ref → Ref → Row Ref
x ─ y =0 = sum=0 (+1 · x ∷ -1 · y ∷ []) +0

-- Σ over source variables: as×bs, and c × each of a list
unfoldable pub sources : List (Term ℕ) → List (Term Ref)
sources ts = rename_terms source ts

unfoldable pub each : ℤ → List ℕ → List (Term Ref)
each c vs = map (λ v. c · source v) vs

-- ---- one-hot bits: an auxiliary for each of a list of labels, of which one is 1

unfoldable pub bits : {A : Type 0} → List A → List Bounds
bits ls = map (λ l. bit) ls

-- Σ w×b over the labels' auxiliaries, numbered from k on
unfoldable pub weighted : {A : Type 0} → (A → ℤ) → List A → ℕ → List (Term Ref)
weighted w [] k = []
weighted w (l ∷ ls) k = w l · aux k ∷ weighted w ls (suc k)

abbrev pub one : {A : Type 0} → A → ℤ
one l = +1

-- Σb − 1 = 0; Σ w×b − x = 0
unfoldable pub one_bit : {A : Type 0} → List A → Row Ref
one_bit ls = sum=0 (weighted one ls 0) -1

unfoldable pub chosen : {A : Type 0} → (A → ℤ) → List A → ℕ → ℕ → Row Ref
chosen w ls k x = sum=0 (weighted w ls k ++ (-1 · source x ∷ [])) +0

-- z := x×b for each label: x its variable, the b from k on, the z from n on
unfoldable pub products : {A : Type 0} → (A → ℕ) → List A → ℕ → ℕ → List (Row Ref)
products x [] k n = []
products x (l ∷ ls) k n = product (aux n) (source (x l)) (aux k) ∷ products x ls (suc k) (suc n)

-- the j-th of a list, counted from 1, the first for a j below 1; d past the list's end
unfoldable pub nth : {A : Type 0} → A → List A → ℤ → A
nth d xs j = get_or xs (count j - 1) d

-- 24, 25: "for j from max(1,lo i) to min(n,hi i)"
unfoldable pub places : Bounds → ℕ → Bounds
places I n = max_z +1 I.lower to min_z (pos n) I.upper

-- ---- the members of a set inside bounds, "rising, repeats counted once"

-- the least of the numbers that are not below `from` and are below `above`; `above` where there is none
unfoldable pub least_from : List ℤ → ℤ → ℤ → ℤ
least_from [] from above = above
least_from (v ∷ S) from above = least_from S from (v if le_z from v && lt_z v above else above)

-- the numbers of S from `from` to `upper`, rising, each once; at most k
unfoldable pub rising : List ℤ → ℤ → ℕ → ℤ → List ℤ
rising S upper zero from = []
rising S upper (suc k) from =
    let v = least_from S from (upper ⊕ +1) in
    let rest = rising S upper k (v ⊕ +1) in
    [] if lt_z upper v else v ∷ rest

unfoldable pub members : List ℤ → Bounds → List ℤ
members S B = rising S B.upper (length S) B.lower
