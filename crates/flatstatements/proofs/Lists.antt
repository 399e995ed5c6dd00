-- Places in a list of tokens as they are seen.
use Rattle.std.proofs.Common.{◌≡◌, refl, sym, ap, ◌∙◌, Bool, true, false, List, ◌∷◌, ℕ, ◌+◌, ◌-◌, ◌<◌, arith, add-one, length, map, get_or, drop, drop-cons, length-drop}
use Rattle.std.specs.List.{prefix_len}
use Rattle.std.proofs.lemmas.List.{drop-map, length-map}

module _ {X Y : Type 0} (f : X → Y) where
  pub seen_front : (xs : List X) (i : ℕ) (d : X) → i < length xs → drop i (map f xs) ≡ f (get_or xs i d) ∷ drop (i + 1) (map f xs)
  seen_front xs i d l =
      let front : drop i xs ≡ get_or xs i d ∷ drop (i + 1) xs = rw (add-one i) (drop-cons xs i d l) in
      drop-map f i xs ∙ ap (map f) front ∙ ap (λ (ys : List Y). f (get_or xs i d) ∷ ys) (sym (drop-map f (i + 1) xs))

  pub left : (xs : List X) (i : ℕ) → length (drop i (map f xs)) ≡ length xs - i
  left xs i = simp (length-drop, length-map)

-- ---- a run of elements that pass a test

module _ {X : Type 0} (p : X → Bool) (xs ys : List X) (x : X) (i n : ℕ) (front : xs ≡ x ∷ ys) (so_far : i + prefix_len p xs ≡ n) where
  pub run_more : p x ≡ true → i + 1 + prefix_len p ys ≡ n
  run_more h = let e : prefix_len p xs ≡ 1 + prefix_len p ys = rw (front, h) refl in omega arith

  pub run_stops : p x ≡ false → i ≡ n
  run_stops h = let e : prefix_len p xs ≡ 0 = rw (front, h) refl in omega arith
