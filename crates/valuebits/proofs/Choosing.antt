-- The loops that list weights and put the bits of a number.
use Rattle.std.proofs.Common.{◌≡◌, refl, sym, ap, ◌∙◌, List, [], ◌∷◌, ℕ, zero, suc, ◌+◌, ◌-◌, ◌≤◌, ◌<◌, min, arith, leb, length, get_or, set, drop, drop_of_length-le}
use lib.Seq.{set_comm}
use Rattle.integers.specs.Choice.{◌if◌else◌}
use Rattle.words.specs.LaidAt.{LaidAt}
use Rattle.words.specs.Overlay.{overlay}
use Rattle.words.proofs.Reading.{word-then}
use Rattle.words.proofs.Rest.{Rest, all_left, lay-part, none_left, laid_one}
use Rattle.bitforms.specs.Weights.{weights_from, weights}
use Rattle.bitforms.specs.Chosen.{left_of, chosen}
use Rattle.bitlines.proofs.Dense.{weights-rest}

-- ---- the weights

pub record Listing (before whole now : List ℕ) (width at weight left : ℕ) : Type 0 where
  pub rest : Rest before 0 whole now at (weights_from left weight left)
  pub place : at + left ≤ width
  pub positive : 1 ≤ weight
  pub grown : 0 < left → weight + left ≤ width + 1

pub listing_begun : (list : List ℕ) (width : ℕ) → Listing list (weights width) list width 0 1 width
unfolding weights
listing_begun list width = record { rest = all_left list 0 (weights_from width 1 width); place = omega arith; positive = omega arith; grown = λ l. omega arith }

module _ {before whole now : List ℕ} {width at weight left : ℕ} where
  pub listing_more : 0 < left → Listing before whole now width at weight left →
      Listing before whole (set now at (min weight left)) width (at + 1) (weight + weight) (left - min weight left)
  unfolding weights_from
  listing_more h s = record {
    rest = next left h s.rest s.positive;
    place = let p = s.place in let q = s.positive in omega arith;
    positive = let q = s.positive in omega arith;
    grown = λ l. let g = s.grown h in omega arith;
  }
    where
      next : (n : ℕ) → 0 < n → Rest before 0 whole now at (weights_from n weight n) → 1 ≤ weight →
          Rest before 0 whole (set now at (min weight n)) (at + 1) (weights_from (n - min weight n) (weight + weight) (n - min weight n))
      next zero l r o = absurd (omega arith)
      next (suc n) l r o = rw (← weights-rest weight n o) (lay-part {xs = min weight (suc n) ∷ []} r (laid_one now at (min weight (suc n))))

  pub listing_done : left ≤ 0 → Listing before whole now width at weight left → LaidAt before 0 whole now at
  unfolding weights_from
  listing_done h s = last left h s.rest
    where
      last : (n : ℕ) → n ≤ 0 → Rest before 0 whole now at (weights_from n weight n) → LaidAt before 0 whole now at
      last zero l r = none_left r
      last (suc n) l r = absurd (omega arith)

-- ---- the bits, from the last weight on

set_before : {A : Type 0} (out : List A) (p q : ℕ) (xs : List A) (b : A) → p < q → set (overlay out q xs) p b ≡ overlay (set out p b) q xs
unfolding overlay
set_before out p q [] b l = refl
set_before out p q (x ∷ xs) b l = set_before (set out q x) p (suc q) xs b (omega arith) ∙ ap (λ o. overlay o (suc q) xs) (set_comm out q p x b (λ e. omega arith))

pub record Choosing (list : List ℕ) (x at : ℕ) (before now : List ℕ) (left i : ℕ) : Type 0 where
  pub place : i ≤ length list
  pub rest : left ≡ left_of (drop i list) x
  pub laid : now ≡ overlay before (at + i) (chosen (drop i list) x)

pub choosing_begun : (list : List ℕ) (x at : ℕ) (out : List ℕ) → Choosing list x at out out x (length list)
unfolding left_of chosen overlay
choosing_begun list x at out =
    let l : length list ≤ length list = omega arith in
    let e : drop (length list) list ≡ [] = drop_of_length-le list l in
    record { place = omega arith; rest = rw e; laid = rw e }

module _ {list : List ℕ} {x at : ℕ} {before now : List ℕ} {left i : ℕ} where
  pub choosing_more : 0 < i → Choosing list x at before now left i → let w = get_or list (i - 1) 0 in
      Choosing list x at before (set now (at + (i - 1)) (1 if leb w left else 0)) (left - w if leb w left else left) (i - 1)
  unfolding left_of chosen overlay
  choosing_more h s =
      let k = i - 1 in
      let e : drop k list ≡ get_or list k 0 ∷ drop (k + 1) list = word-then list k (omega (arith, s.place)) in
      let f : k + 1 ≡ i = omega arith in
      let g : suc (at + k) ≡ at + i = omega arith in
      record {
        place = omega (arith, s.place);
        rest = rw (e, f, ← s.rest);
        laid =
            ap (λ o. set o (at + k) (1 if leb (get_or list k 0) left else 0)) s.laid
            ∙ set_before before (at + k) (at + i) (chosen (drop i list) x) (1 if leb (get_or list k 0) left else 0) (omega arith)
            ∙ sym (rw (e, f, ← s.rest, g));
      }
