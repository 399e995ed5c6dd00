-- The members of a set, read back from the list that they were put into, and their rows.
use Rattle.std.proofs.Common.{◌≡◌, sym, ap, ◌∙◌, List, map, ℕ, add-zero, ℤ, length, get_or}
use mathlib.Core.Path.{fun_ext}
use Rattle.integers.specs.Number.{◌⊖◌, count, +0, +1}
use Rattle.integers.specs.Lists.{list_of}
use Rattle.integers.specs.Terms.{◌·◌}
use Rattle.integers.proofs.Places.{by-places}
use Rattle.rules.specs.Block.{aux, numbered}
use Rattle.rules.specs.Parts.{weighted}
use Rattle.laying.specs.Part.{term_parts}
use Rattle.laying.specs.Lists.{many}
use Rattle.laying.proofs.Lists.{weighted-many}
use Rattle.choiceblocks.specs.Rows.{value_at, member_at}
use Rattle.choiceblocks.proofs.OneHot.{terms-many}

-- a list that reads as the members do
module _ (first : ℕ) (out vs : List ℤ) (same : (k : ℕ) → get_or out k +0 ≡ get_or vs k +0) where
  pub front : vs ≡ list_of (λ k. get_or out k +0) (length vs)
  front = sym (by-places +0 vs) ∙ ap (λ f. list_of f (length vs)) (fun_ext (λ k. sym (same k)))

  pub value-terms : term_parts first (weighted (λ v. v) vs 0) ≡ many (value_at out first) (length vs)
  value-terms = ap (λ l. term_parts first (weighted (λ v. v) l 0)) front ∙ (rw (add-zero first) at (weighted-many first (λ v. v) (λ k. get_or out k +0) (length vs) 0))

  pub member-terms : (from : ℤ) → term_parts first (map (λ v. +1 · aux (count (v ⊖ from))) vs) ≡ many (member_at out from first) (length vs)
  unfolding numbered
  member-terms from = ap (λ l. term_parts first (map (λ v. +1 · aux (count (v ⊖ from))) l)) front ∙ terms-many first (λ v. +1 · aux (count (v ⊖ from))) (λ k. get_or out k +0) (length vs)
