-- Answers of one block: counted on, small, and joined with what comes after.
use Rattle.std.proofs.Common.{◌≡◌, refl, sym, Bool, true, false, List, [], ◌∷◌, ◌++◌, ℕ, ◌+◌, ◌≤◌, ◌<◌, arith, length}
use Rattle.integers.specs.Choice.{◌if◌else◌}
use Rattle.integers.specs.Bounds.{within}
use Rattle.integers.specs.Terms.{Valuation}
use Rattle.integers.specs.declared.Bounds.{Bounds}
use Rattle.integers.proofs.Tests.{false-true}
use Rattle.words.specs.Answer.{Answer, holds, out_of_bounds, is_false, is_holds}
use Rattle.words.specs.Faults.{said_of}
use Rattle.words.specs.Judge.{first_false, first_out_of_bounds}
use Rattle.words.specs.declared.answer.Verdict.{Verdict}
use Rattle.words.specs.declared.answer.Verdict.TheVariants.{Holds, OutOfBounds, False}
use Rattle.reasons.specs.Reason.{Reason, in_block, answer_or}
use Rattle.reasoning.specs.Walks.{shift, AtMost}

-- ---- answers

pub unheld : (v : Verdict) → (v ≡ Holds → ⊥) → is_holds (said_of v) ≡ false
unfolding is_holds
unheld Holds f = absurd (f refl)
unheld (OutOfBounds i) f = refl
unheld (False i) f = refl

-- ---- rows

module _ {A : Type 0} (t : A → Bool) where
  -- a row fails: what comes after plays no part
  pub fails-here : (k : ℕ) (xs : List A) (j : ℕ) (b : Bool) (x y : Reason) → is_holds (first_false t k xs) ≡ false → in_block (first_false t k xs) j b x ≡ in_block (first_false t k xs) j b y
  unfolding first_false is_holds
  fails-here k [] j b x y e = false-true (sym e)
  fails-here k (z ∷ xs) j b x y e = go (t z) e (fails-here (k + 1) xs j b x y)
    where
      go : (s : Bool) → is_holds (first_false t (k + 1) xs if s else is_false k) ≡ false →
          (is_holds (first_false t (k + 1) xs) ≡ false → in_block (first_false t (k + 1) xs) j b x ≡ in_block (first_false t (k + 1) xs) j b y) →
          in_block (first_false t (k + 1) xs if s else is_false k) j b x ≡ in_block (first_false t (k + 1) xs if s else is_false k) j b y
      go true e more = more e
      go false e more = refl

-- ---- bounds

pub outside-part : (ρ σ : Valuation) (first j : ℕ) (Bs : List Bounds) → ((v : ℕ) → v < j + length Bs → ρ (first + v) ≡ σ v) →
    first_out_of_bounds ρ (first + j) Bs holds ≡ shift first (first_out_of_bounds σ j Bs holds)
unfolding first_out_of_bounds
outside-part ρ σ first j [] h = refl
outside-part ρ σ first j (B ∷ Bs) h =
    rw (h j (omega arith))
    (go (within B (σ j)) (let e : first + j + 1 ≡ first + (j + 1) = omega arith in rw e (outside-part ρ σ first (j + 1) Bs (λ v l. h v (omega (arith, l))))))
  where
    go : (s : Bool) → first_out_of_bounds ρ (first + j + 1) Bs holds ≡ shift first (first_out_of_bounds σ (j + 1) Bs holds) →
        (first_out_of_bounds ρ (first + j + 1) Bs holds if s else out_of_bounds (first + j)) ≡ shift first (first_out_of_bounds σ (j + 1) Bs holds if s else out_of_bounds j)
    go true e = e
    go false e = refl

-- values that agree on these variables
pub outside-same : (ρ σ : Valuation) (k : ℕ) (Bs : List Bounds) (after : Answer) → ((v : ℕ) → v < k + length Bs → ρ v ≡ σ v) →
    first_out_of_bounds ρ k Bs after ≡ first_out_of_bounds σ k Bs after
unfolding first_out_of_bounds
outside-same ρ σ k [] after h = refl
outside-same ρ σ k (B ∷ Bs) after h = rw (h k (omega arith), outside-same ρ σ (k + 1) Bs after (λ v l. h v (omega (arith, l)))) refl

module _ (σ : Valuation) where
  pub outside_below : (n k : ℕ) (Bs : List Bounds) → k + length Bs ≤ n → AtMost n (first_out_of_bounds σ k Bs holds)
  unfolding first_out_of_bounds
  outside_below n k [] h = tt
  outside_below n k (B ∷ Bs) h = go (within B (σ k)) (outside_below n (k + 1) Bs (omega (arith, h)))
    where
      go : (s : Bool) → AtMost n (first_out_of_bounds σ (k + 1) Bs holds) → AtMost n (first_out_of_bounds σ (k + 1) Bs holds if s else out_of_bounds k)
      go true b = b
      go false b = omega (arith, h)

  -- a value is out of bounds: what comes after plays no part
  pub answer-here : (k : ℕ) (Bs : List Bounds) (x y : Reason) → is_holds (first_out_of_bounds σ k Bs holds) ≡ false → answer_or (first_out_of_bounds σ k Bs holds) x ≡ answer_or (first_out_of_bounds σ k Bs holds) y
  unfolding first_out_of_bounds is_holds
  answer-here k [] x y e = false-true (sym e)
  answer-here k (B ∷ Bs) x y e = go (within B (σ k)) e (answer-here (k + 1) Bs x y)
    where
      go : (s : Bool) → is_holds (first_out_of_bounds σ (k + 1) Bs holds if s else out_of_bounds k) ≡ false →
          (is_holds (first_out_of_bounds σ (k + 1) Bs holds) ≡ false → answer_or (first_out_of_bounds σ (k + 1) Bs holds) x ≡ answer_or (first_out_of_bounds σ (k + 1) Bs holds) y) →
          answer_or (first_out_of_bounds σ (k + 1) Bs holds if s else out_of_bounds k) x ≡ answer_or (first_out_of_bounds σ (k + 1) Bs holds if s else out_of_bounds k) y
      go true e more = more e
      go false e more = refl

-- the sources' bounds, then block after block
pub outside-then : (ρ : Valuation) (k : ℕ) (Bs Cs : List Bounds) (after : Answer) →
    first_out_of_bounds ρ k (Bs ++ Cs) after ≡ first_out_of_bounds ρ k Bs (first_out_of_bounds ρ (k + length Bs) Cs after)
unfolding first_out_of_bounds
outside-then ρ k [] Cs after = let e : k + 0 ≡ k = omega arith in rw e refl
outside-then ρ k (B ∷ Bs) Cs after = go (within B (ρ k)) (let e : k + length (B ∷ Bs) ≡ k + 1 + length Bs = omega arith in rw e (outside-then ρ (k + 1) Bs Cs after))
  where
    go : (s : Bool) → first_out_of_bounds ρ (k + 1) (Bs ++ Cs) after ≡ first_out_of_bounds ρ (k + 1) Bs (first_out_of_bounds ρ (k + length (B ∷ Bs)) Cs after) →
        (first_out_of_bounds ρ (k + 1) (Bs ++ Cs) after if s else out_of_bounds k) ≡ (first_out_of_bounds ρ (k + 1) Bs (first_out_of_bounds ρ (k + length (B ∷ Bs)) Cs after) if s else out_of_bounds k)
    go true e = e
    go false e = refl

-- what is said of bounds holds, where it names no variable
false-outside : (σ : Valuation) (j k : ℕ) (Bs : List Bounds) → is_false j ≡ first_out_of_bounds σ k Bs holds → ⊥
unfolding first_out_of_bounds
false-outside σ j k [] e = let z : ◌≡◌ {A = ℕ} 0 1 = cc in omega arith
false-outside σ j k (B ∷ Bs) e = go (within B (σ k)) e (false-outside σ j (k + 1) Bs)
  where
    go : (s : Bool) → is_false j ≡ (first_out_of_bounds σ (k + 1) Bs holds if s else out_of_bounds k) → (is_false j ≡ first_out_of_bounds σ (k + 1) Bs holds → ⊥) → ⊥
    go true e more = more e
    go false e more = let z : ◌≡◌ {A = ℕ} 0 1 = cc in omega arith

pub inside-said : (σ : Valuation) (k : ℕ) (Bs : List Bounds) (v : Verdict) → said_of v ≡ first_out_of_bounds σ k Bs holds → ((i : ℕ) → v ≡ OutOfBounds i → ⊥) → is_holds (said_of v) ≡ true
unfolding is_holds
inside-said σ k Bs Holds e f = refl
inside-said σ k Bs (OutOfBounds i) e f = absurd (f i refl)
inside-said σ k Bs (False i) e f = absurd (false-outside σ i k Bs e)
