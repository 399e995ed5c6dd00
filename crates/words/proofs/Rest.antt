-- A text laid part after part: what is left to lay. Laying the rest from here gives what laying the whole gives. For loops that write to a lent list.
use Rattle.std.proofs.Common.{◌≡◌, refl, sym, ap, ◌∙◌, List, [], ◌∷◌, ◌++◌, ℕ, ◌+◌, ◌≤◌, ◌<◌, arith, add-zero, length, length-append, get_or, set, drop, drop_of_length-le}
use Rattle.words.specs.LaidAt.{LaidAt}
use Rattle.words.specs.Overlay.{overlay}
use Rattle.words.proofs.Overlay.{overlay-append, overlay-none, overlay-step, length-overlay}

module _ {A : Type 0} where
  pub record Rest (before : List A) (at : ℕ) (whole now : List A) (to : ℕ) (rest : List A) : Type 0 where
    pub over : overlay now to rest ≡ overlay before at whole
    pub ends : to + length rest ≡ at + length whole

  pub all_left : (out : List A) (at : ℕ) (whole : List A) → Rest out at whole out at whole
  all_left out at whole = record { over = refl; ends = refl }

  module _ {before : List A} {at : ℕ} {whole now : List A} {to : ℕ} where
    -- a part is laid; the last part; no part is left
    pub lay-part : {xs ys later : List A} {end : ℕ} → Rest before at whole now to (xs ++ ys) → LaidAt now to xs later end → Rest before at whole later end ys
    lay-part {xs} {ys} r l = record {
      over = rw (l.over, l.ends) (overlay-append now to xs ys ∙ r.over);
      ends = omega (arith, l.ends, r.ends, length-append xs ys);
    }

    pub lay-last : {xs later : List A} {end : ℕ} → Rest before at whole now to xs → LaidAt now to xs later end → LaidAt before at whole later end
    lay-last r l = record { over = l.over ∙ r.over; ends = l.ends ∙ r.ends }

    pub none_left : Rest before at whole now to [] → LaidAt before at whole now to
    none_left r = record { over = sym (overlay-none now to) ∙ r.over; ends = omega (arith, r.ends) }

    -- the rest, written otherwise
    pub same_rest : {xs ys : List A} → xs ≡ ys → Rest before at whole now to xs → Rest before at whole now to ys
    same_rest e r = record { over = ap (overlay now to) (sym e) ∙ r.over; ends = ap (λ (l : List A). to + length l) (sym e) ∙ r.ends }

  -- the list keeps its length
  pub laid-length : {out : List A} {at : ℕ} {text later : List A} {end : ℕ} → LaidAt out at text later end → length later ≡ length out
  laid-length {out} {at} {text} l = ap length l.over ∙ length-overlay out at text

  -- a part by its length; one element
  pub laid-part : (out : List A) (at : ℕ) (xs : List A) (end : ℕ) → end ≡ at + length xs → LaidAt out at xs (overlay out at xs) end
  laid-part out at xs end e = record { over = refl; ends = e }

  pub laid_one : (out : List A) (at : ℕ) (x : A) → LaidAt out at (x ∷ []) (set out at x) (at + 1)
  unfolding overlay
  laid_one out at x = record { over = refl; ends = refl }

  -- ---- one element after the other: the first i of xs are laid
  pub record FirstLaid (before : List A) (at : ℕ) (xs now : List A) (i : ℕ) : Type 0 where
    pub inside : i ≤ length xs
    pub over : overlay now (at + i) (drop i xs) ≡ overlay before at xs

  pub none-laid : (out : List A) (at : ℕ) (xs : List A) → FirstLaid out at xs out 0
  none-laid out at xs = record { inside = omega arith; over = rw add-zero }

  module _ {before : List A} {at : ℕ} {xs now : List A} {i : ℕ} (f : FirstLaid before at xs now i) where
    pub one-laid : (d : A) {later : List A} → i < length xs → later ≡ set now (at + i) (get_or xs i d) → FirstLaid before at xs later (i + 1)
    one-laid d h e = record { inside = omega arith; over = rw e (sym (overlay-step d now at xs i h) ∙ f.over) }

    pub all_laid : length xs ≤ i → LaidAt before at xs now (at + i)
    all_laid h = record { over = sym (overlay-none now (at + i)) ∙ rw (drop_of_length-le xs h) at f.over; ends = omega (arith, f.inside) }
