-- The bounds of the variables, word by word, their lower and their upper ones in a list each.
use Rattle.std.proofs.Common.{◌≡◌, refl, ◌∙◌, true, false, List, map, ℕ, ◌+◌, ◌<◌, ◌≤◌, arith, add-one, ℤ, length, set, drop, length-set, drop_of_length-le}
use Rattle.words.specs.Word.{word_at}
use Rattle.words.specs.Variables.{variables}
use Rattle.words.specs.Overlay.{overlay}
use Rattle.variables.specs.Start.{starts, pair_bounds}
use Rattle.variables.proofs.Walk.{at_none, at_one}

-- the bounds of the words before the i-th stand in two lists, n of them
pub record Keeping (ws : List ℕ) (ls₀ us₀ ls us : List ℤ) (i n : ℕ) : Type 0 where
  pub many : n + length (variables (drop i ws)) ≡ length (variables ws)
  pub lowers : overlay ls n (map (λ B. B.lower) (variables (drop i ws))) ≡ overlay ls₀ 0 (map (λ B. B.lower) (variables ws))
  pub uppers : overlay us n (map (λ B. B.upper) (variables (drop i ws))) ≡ overlay us₀ 0 (map (λ B. B.upper) (variables ws))
  pub few : n ≤ i
  pub in_words : i ≤ length ws
  pub same-lowers : length ls ≡ length ls₀
  pub same-uppers : length us ≡ length us₀

pub begun : (ws : List ℕ) (ls us : List ℤ) → Keeping ws ls us ls us 0 0
begun ws ls us = record { many = omega arith; lowers = refl; uppers = refl; few = omega arith; in_words = omega arith; same-lowers = refl; same-uppers = refl }

module _ {ws : List ℕ} {ls₀ us₀ ls us : List ℤ} {i n : ℕ} (k : Keeping ws ls₀ us₀ ls us i n) where
  pub kept : i < length ws → starts (word_at ws i) ≡ true →
      Keeping ws ls₀ us₀ (set ls n (pair_bounds (word_at ws i) (word_at ws (i + 1))).lower) (set us n (pair_bounds (word_at ws i) (word_at ws (i + 1))).upper) (i + 1) (n + 1)
  unfolding overlay word_at
  kept h t =
      let e = at_one ws i h t in
      record {
        many = omega (arith, rw e at k.many);
        lowers = rw (add-one n) (rw e at k.lowers);
        uppers = rw (add-one n) (rw e at k.uppers);
        few = omega (arith, k.few);
        in_words = omega arith;
        same-lowers = length-set ls n (pair_bounds (word_at ws i) (word_at ws (i + 1))).lower ∙ k.same-lowers;
        same-uppers = length-set us n (pair_bounds (word_at ws i) (word_at ws (i + 1))).upper ∙ k.same-uppers;
      }

  pub passed : i < length ws → starts (word_at ws i) ≡ false → Keeping ws ls₀ us₀ ls us (i + 1) n
  unfolding word_at
  passed h t =
      let e = at_none ws i h t in
      record {
        many = rw e at k.many;
        lowers = rw e at k.lowers;
        uppers = rw e at k.uppers;
        few = omega (arith, k.few);
        in_words = omega arith;
        same-lowers = k.same-lowers;
        same-uppers = k.same-uppers;
      }

  pub ended : length ws ≤ i →
      (n ≡ length (variables ws))
      × (ls ≡ overlay ls₀ 0 (map (λ B. B.lower) (variables ws)))
      × (us ≡ overlay us₀ 0 (map (λ B. B.upper) (variables ws)))
  unfolding overlay variables
  ended h =
      let e = drop_of_length-le ws h in
      (omega (arith, rw e at k.many), rw e at k.lowers, rw e at k.uppers)
