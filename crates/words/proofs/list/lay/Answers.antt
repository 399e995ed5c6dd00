use Rattle.std.proofs.Common.{◌≡◌, ℕ, ◌+◌, ◌<◌, ◌≤◌, List, length, set, sym, ap, ◌∙◌, ◌⊎◌, inl, inr, arith}
use Rattle.std.specs.Prelude.{min}
use Rattle.std.proofs.Math.Nat.{min-eq_left, min-eq_right}
use Rattle.std.proofs.Math.Seq.{set_out}
use Rattle.std.proofs.lemmas.Bool.{cases_lt}
use Rattle.words.proofs.Rest.{one-laid, all_laid}
use Rattle.words.proofs.list.lay.Goals as goal

-- a place past the numbers of 64 bits is past the end of each list, as the last of them is
set-capped : {A : Type 0} (l : List A) (p : ℕ) (x : A) → length l < 18446744073709551616 → set l (min p 18446744073709551615) x ≡ set l p x
set-capped l p x h = go (cases_lt p 18446744073709551616)
  where
    go : (p < 18446744073709551616) ⊎ (18446744073709551616 ≤ p) → set l (min p 18446744073709551615) x ≡ set l p x
    go (inl few) = ap (λ (q : ℕ). set l q x) (min-eq_left (omega (arith, few)))
    go (inr many) = ap (λ (q : ℕ). set l q x) (min-eq_right (omega (arith, many))) ∙ set_out l 18446744073709551615 x (omega (arith, h)) ∙ sym (set_out l p x (omega (arith, h, many)))

pub loop-k-preserved : goal.loop-k-preserved
loop-k-preserved g c =
    let same = rw c.saturating_add.ensures at c.put.ensures in
    let capped = set-capped c.loop-k.out (c.args.at + c.loop-k.k) c.index-list-k.result c.loop-k.invariant.1 in
    (one-laid c.loop-k.invariant.0 c.index-list-k.result c.loop-k-test.true (same ∙ capped ∙ ap (set c.loop-k.out (c.args.at + c.loop-k.k)) c.index-list-k.is), grind (arith, c.put.ensures, c.loop-k.invariant.1))

pub returns : goal.returns
returns g c = (all_laid c.loop-k.invariant.0 c.loop-k-test.false).over
