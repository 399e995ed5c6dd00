-- The list of the sums of a model's constraints: how many it has, and that of constraint k.
use Rattle.std.proofs.Common.{◌≡◌, ◌∙◌, ⊎_elim, List, ℕ, zero, suc, ◌+◌, ◌<◌, ◌≤◌, arith, length, get_or, length-set, get_or-set_same, get_or-set_other}
use lib.ListN.{length-replicate}
use Rattle.std.proofs.lemmas.Bool.{cases_lt}
use Rattle.integers.specs.Number.{+0}
use Rattle.integers.specs.Bounds.{◌to◌}
use Rattle.integers.specs.declared.Bounds.{Bounds}
use Rattle.linearsums.specs.Places.{sum_bounds, sums_up_to}

module _ (ws hs : List ℕ) (β : ℕ → Bounds) where
  sums-length : (k : ℕ) → length (sums_up_to ws hs β k) ≡ 256
  unfolding sums_up_to
  sums-length zero = length-replicate 256 (+0 to +0)
  sums-length (suc k) = length-set (sums_up_to ws hs β k) k (sum_bounds ws (get_or hs k 0 + 1) β) ∙ sums-length k

  -- that of constraint k, whatever stands past the list's end
  pub in_list : (d : Bounds) (n k : ℕ) → k < n → n ≤ 256 → get_or (sums_up_to ws hs β n) k d ≡ sum_bounds ws (get_or hs k 0 + 1) β
  unfolding sums_up_to
  in_list d zero k h l = absurd (omega arith)
  in_list d (suc n) k h l = ⊎_elim
      (λ below. get_or-set_other (sums_up_to ws hs β n) n k (sum_bounds ws (get_or hs n 0 + 1) β) d (λ e. omega arith) ∙ in_list d n k below (omega arith))
      (λ from. let e : k ≡ n = omega arith in rw e (get_or-set_same (sums_up_to ws hs β n) n (sum_bounds ws (get_or hs n 0 + 1) β) d (omega (arith, sums-length n))))
      (cases_lt k n)
