-- A list as a loop fills it: its first v places have what they are to have, the others what they had.
use Rattle.std.proofs.Common.{◌≡◌, refl, ◌∙◌, ⊎_elim, List, ℕ, ◌+◌, ◌<◌, ◌≤◌, arith, length, get_or, set, length-set, get_or-set_same, get_or-set_other}
use Rattle.std.proofs.lemmas.Bool.{cases_lt}
use Rattle.integers.specs.Number.{+0}
use Rattle.integers.specs.Bounds.{◌to◌}
use Rattle.integers.specs.declared.Bounds.{Bounds}

abbrev pub none : Bounds
none = +0 to +0

-- the list Cs, filled from Bs on by what β says of a place
pub record Filling (β : ℕ → Bounds) (Bs Cs : List Bounds) (v : ℕ) : Type 0 where
  pub many : length Cs ≡ length Bs
  pub filled : (j : ℕ) → j < v → get_or Cs j none ≡ β j
  pub left : (j : ℕ) → v ≤ j → get_or Cs j none ≡ get_or Bs j none

pub begun : (β : ℕ → Bounds) (Bs : List Bounds) → Filling β Bs Bs 0
begun β Bs = record { many = refl; filled = λ j h. absurd (omega arith); left = λ j h. refl }

module _ {β : ℕ → Bounds} {Bs Cs : List Bounds} {v : ℕ} (f : Filling β Bs Cs v) where
  pub more : v < length Bs → Filling β Bs (set Cs v (β v)) (v + 1)
  more h = record {
    many = length-set Cs v (β v) ∙ f.many;
    filled = λ j l. ⊎_elim (λ below. get_or-set_other Cs v j (β v) none (λ e. omega arith) ∙ f.filled j below)
        (λ from. let e : j ≡ v = omega arith in rw e (get_or-set_same Cs v (β v) none (omega (arith, f.many)))) (cases_lt j v);
    left = λ j l. get_or-set_other Cs v j (β v) none (λ e. omega arith) ∙ f.left j (omega arith);
  }

  -- the list after the turn, given by an equation
  pub more-as : {Ds : List Bounds} → v < length Bs → Ds ≡ set Cs v (β v) → Filling β Bs Ds (v + 1)
  more-as h e = rw e (more h)
