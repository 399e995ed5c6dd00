-- The loops that put products of bits: a bit times each of some bits, and each of some bits so.
use Rattle.std.proofs.Common.{◌≡◌, refl, sym, ap, List, [], ◌∷◌, map, ℕ, zero, suc, ◌+◌, ◌*◌, ◌≤◌, ◌<◌, arith, length, get_or, set, drop, drop_of_length-le}
use mathlib.Core.List.{flat_map}
use lib.ListN.{length-map}
use Rattle.words.specs.LaidAt.{LaidAt}
use Rattle.words.proofs.Reading.{word-then}
use Rattle.words.proofs.Rest.{Rest, lay-part, same_rest, none_left, FirstLaid, one-laid, all_laid}
use Rattle.bitforms.specs.ValueBits.{bit_products}

get_or-times : (f : ℕ) (gs : List ℕ) (k : ℕ) → get_or (map (λ g. f * g) gs) k (f * 0) ≡ f * get_or gs k 0
get_or-times f [] k = refl
get_or-times f (g ∷ gs) zero = refl
get_or-times f (g ∷ gs) (suc k) = get_or-times f gs k

pub times_more : {before now : List ℕ} {at b : ℕ} (f : ℕ) (gs : List ℕ) → b < length gs → FirstLaid before at (map (λ g. f * g) gs) now b →
    FirstLaid before at (map (λ g. f * g) gs) (set now (at + b) (f * get_or gs b 0)) (b + 1)
times_more {before} {now} {at} {b} f gs l s = one-laid s (f * 0) (omega (arith, length-map gs (λ g. f * g))) (ap (set now (at + b)) (sym (get_or-times f gs b)))

pub times-done : {before now : List ℕ} {at b : ℕ} (f : ℕ) (gs : List ℕ) → length gs ≤ b → FirstLaid before at (map (λ g. f * g) gs) now b → LaidAt before at (map (λ g. f * g) gs) now (at + b)
times-done f gs l s = all_laid s (omega (arith, length-map gs (λ g. f * g)))

-- ---- one bit of the first list after another

pub record Crossing (before : List ℕ) (at : ℕ) (fs gs now : List ℕ) (to a : ℕ) : Type 0 where
  pub place : a ≤ length fs
  pub rest : Rest before at (bit_products fs gs) now to (bit_products (drop a fs) gs)
  pub reached : to ≡ at + a * length gs

module _ {before : List ℕ} {at : ℕ} {fs gs now : List ℕ} {to a : ℕ} where
  pub crossing_more : {later : List ℕ} {end : ℕ} → a < length fs → Crossing before at fs gs now to a → LaidAt now to (map (λ g. get_or fs a 0 * g) gs) later end →
      Crossing before at fs gs later end (a + 1)
  unfolding bit_products flat_map
  crossing_more l s d = record {
    place = omega arith;
    rest = lay-part (same_rest (ap (λ xs. bit_products xs gs) (word-then fs a l)) s.rest) d;
    reached = let e = d.ends in let m = length-map gs (λ g. get_or fs a 0 * g) in omega (arith, s.reached);
  }

  pub crossing_done : length fs ≤ a → Crossing before at fs gs now to a → LaidAt before at (bit_products fs gs) now to
  unfolding bit_products flat_map
  crossing_done l s = none_left (same_rest (ap (λ xs. bit_products xs gs) (drop_of_length-le fs l)) s.rest)
