-- A name among names of which each has its own place by a function: where it is looked for. For `place_of`.
use Rattle.std.proofs.Common.{◌≡◌, refl, ap, ◌∙◌, Bool, true, false, List, [], ◌∷◌, ℕ, zero, suc, ◌+◌, ◌-◌, ◌<◌, ◌≤◌, arith, length, get_or}
use Rattle.std.proofs.lemmas.Slice.Eq.{bytes_eq-Decides}
use Rattle.integers.specs.Choice.{◌if◌else◌}
use Rattle.names.specs.Name.{same, look_up}

module _ (f : List ℕ → ℕ) (x : List ℕ) where
  -- each name has its place by the function, counted from k
  abbrev pub Placed : ℕ → List (List ℕ) → Type 0
  Placed k ys = (i : ℕ) → i < length ys → f (get_or ys i []) ≡ k + i

  -- a number that is found, counted from k, is that of the place of the name, which has that name
  abbrev pub Found : ℕ → List (List ℕ) → ℕ → Type 0
  Found k ys n = (n ≡ f x + 1) × (k ≤ f x) × (f x < k + length ys) × (same x (get_or ys (f x - k) []) ≡ true)

  pub found : (k : ℕ) (ys : List (List ℕ)) → Placed k ys → (look_up x k ys ≡ 0 → ⊥) → Found k ys (look_up x k ys)
  unfolding look_up
  found k [] h n = absurd (n refl)
  found k (y ∷ ys) h n = go (same x y) refl n (found (k + 1) ys (λ i l. let q = h (suc i) (omega (arith, l)) in omega (arith, q)))
    where
      go : (b : Bool) → same x y ≡ b → ((k + 1 if b else look_up x (k + 1) ys) ≡ 0 → ⊥) → ((look_up x (k + 1) ys ≡ 0 → ⊥) → Found (k + 1) ys (look_up x (k + 1) ys)) → Found k (y ∷ ys) (k + 1 if b else look_up x (k + 1) ys)
      go true e n r =
          let p : f x ≡ k + 0 = ap f ((bytes_eq-Decides x y).0 e) ∙ h 0 (omega arith) in
          let z : f x - k ≡ 0 = omega (arith, p) in
          (omega (arith, p), omega (arith, p), omega (arith, p), rw z e)
      go false e n r =
          let m = r n in
          let z : f x - k ≡ suc (f x - (k + 1)) = omega (arith, m.1) in
          (m.0, omega (arith, m.1), omega (arith, m.2), rw z m.3)

-- the name at a place is found
pub hit : (x : List ℕ) (k j : ℕ) (ys : List (List ℕ)) → j < length ys → same x (get_or ys j []) ≡ true → look_up x k ys ≡ 0 → ⊥
unfolding look_up
hit x k j [] l e z = omega (arith, l)
hit x k zero (y ∷ ys) l e z = let p : k + 1 ≡ 0 = rw e at z in omega (arith, p)
hit x k (suc j) (y ∷ ys) l e z = go (same x y) z (hit x (k + 1) j ys (omega (arith, l)) e)
  where
    go : (b : Bool) → (k + 1 if b else look_up x (k + 1) ys) ≡ 0 → (look_up x (k + 1) ys ≡ 0 → ⊥) → ⊥
    go true z r = omega (arith, z)
    go false z r = r z
