-- 02, wishes 10 and 11: the row system that is written from a model has exactly as many solutions as the model, and the list of the model's solutions, each
-- followed by what fill picks for it, is the list of the row system's.
use Rattle.std.proofs.Common.{◌≡◌, inl, inr, ◌↔◌, List, [], ◌∷◌, ◌++◌, map, ℕ, ℤ, length}
use lib.ListN.{length-map}
use Rattle.integers.proofs.Lists.{all-mapped}
use Rattle.integers.proofs.Tests.{Member}
use Rattle.rules.specs.Translation.{picks, system_words}
use Rattle.sharing.specs.SharedSolutions.{Passes, SatisfiesRows}
use Rattle.sharing.proofs.Theorem.{as_many_solutions}
use Rattle.solutions.specs.Solutions.{solutions}
use Rattle.solutions.specs.AllSolutions.{Before}
use Rattle.solutions.proofs.Complete.{map_in, map-out, complete}
use Rattle.solutions.proofs.Order.{Sorted, sorted-solutions}

-- values, and what fill picks for them
abbrev pub completed : List ℕ → List ℤ → List ℤ
completed ws vs = vs ++ picks ws vs

pub system_solutions : List ℕ → List (List ℤ)
system_solutions ws = map (completed ws) (solutions ws)

before-append : (vs us xs ys : List ℤ) → Before vs us → Before (vs ++ xs) (us ++ ys)
before-append [] us xs ys h = absurd h
before-append (v ∷ vs) [] xs ys h = absurd h
before-append (v ∷ vs) (u ∷ us) xs ys (inl h) = inl h
before-append (v ∷ vs) (u ∷ us) xs ys (inr h) = inr (h.0, before-append vs us xs ys h.1)

sorted-completed : (ws : List ℕ) (xs : List (List ℤ)) → Sorted xs → Sorted (map (completed ws) xs)
sorted-completed ws [] s = tt
sorted-completed ws (x ∷ xs) s =
    (all-mapped (completed ws) (Before x) (Before (completed ws x)) (λ y h. before-append x y (picks ws x) (picks ws y) h) xs s.0, sorted-completed ws xs s.1)

-- each once
pub sorted-system : (ws : List ℕ) → Sorted (system_solutions ws)
unfolding system_solutions
sorted-system ws = sorted-completed ws (solutions ws) (sorted-solutions ws)

-- as many as the model has
pub as_many : (ws : List ℕ) → length (system_solutions ws) ≡ length (solutions ws)
unfolding system_solutions
as_many ws = length-map (solutions ws) (completed ws)

-- THE LAW: they are exactly the lists that satisfy the row system
pub system-complete : (ws : List ℕ) → Passes ws → (zs : List ℤ) → Member zs (system_solutions ws) ↔ SatisfiesRows (system_words ws) zs
unfolding system_solutions
system-complete ws passes zs =
    let a = as_many_solutions ws passes zs in (
      λ m. let r = map-out (completed ws) zs (solutions ws) m in a.1 (r.0, ((complete ws r.0).0 r.1.1, r.1.0)),
      λ s. let r = a.0 s in rw r.1.1 (map_in (completed ws) r.0 (solutions ws) ((complete ws r.0).1 r.1.0)),
    )
