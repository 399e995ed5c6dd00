-- The two models of a pair: how long they are, that both begin with the table, and laying them over a list piece by piece.
use Rattle.std.proofs.Common.{◌≡◌, refl, ap, ◌∙◌, true, ◌||◌, List, [], ◌∷◌, ◌++◌, append_assoc, ℕ, ◌+◌, ◌-◌, ◌≤◌, arith, eqb, length, take, drop, length-append, length-drop, length-take-le, take-add}
use Rattle.integers.proofs.Booleans.{or-true}
use Rattle.words.specs.Word.{kind, word}
use Rattle.words.specs.Overlay.{overlay}
use Rattle.words.proofs.Overlay.{overlay-append}
use Rattle.pairs.specs.Pair.{separates, ends_table, before, variable_table, first_model, second_model}
use Rattle.pairs.proofs.Before.{before-le, before_mono}

separator-ends : (w : ℕ) → separates w ≡ true → ends_table w ≡ true
unfolding ends_table
separator-ends w h = rw h (or-true (eqb (kind w) 4 || eqb (kind w) 7))

module _ (ws : List ℕ) where
  abbrev pub D : ℕ
  D = before separates ws

  abbrev pub T : ℕ
  T = before ends_table ws

  pub table-first : T ≤ D
  table-first = before_mono separates ends_table separator-ends ws

  pub place_inside : D ≤ length ws
  place_inside = before-le separates ws

  front_length : length (take D ws) ≡ D
  front_length = length-take-le D ws place_inside

  pub table-length : length (take T ws) ≡ T
  table-length = length-take-le T ws (omega (arith, table-first, place_inside))

  pub first-length : length (first_model ws) ≡ D + 1
  unfolding first_model
  first-length = length-append (take D ws) _ ∙ ap (λ (n : ℕ). n + 1) front_length

  pub second-length : length (second_model ws) ≡ T + (length ws - (D + 1))
  unfolding second_model variable_table
  second-length = rw (length-append, table-length, length-drop)

  -- both begin with the table
  pub first_splits : first_model ws ≡ variable_table ws ++ (take (D - T) (drop T ws) ++ (word 7 0 ∷ []))
  unfolding first_model variable_table
  first_splits =
      let e : D ≡ T + (D - T) = omega (arith, table-first) in
      ap (λ (l : List ℕ). l ++ (word 7 0 ∷ [])) (ap (λ (n : ℕ). take n ws) e ∙ take-add T (D - T) ws) ∙ append_assoc (take T ws) _ _

  pub second_splits : second_model ws ≡ variable_table ws ++ drop (D + 1) ws
  unfolding second_model
  second_splits = refl

  -- laid piece by piece
  pub first-laid : (out : List ℕ) → overlay (overlay out 0 (take D ws)) D (word 7 0 ∷ []) ≡ overlay out 0 (first_model ws)
  unfolding first_model
  first-laid out =
      let e : D ≡ 0 + length (take D ws) = omega (arith, front_length) in
      ap (λ (n : ℕ). overlay (overlay out 0 (take D ws)) n (word 7 0 ∷ [])) e ∙ overlay-append out 0 (take D ws) _

  pub second-laid : (out : List ℕ) → overlay (overlay out 0 (take T ws)) T (drop (D + 1) ws) ≡ overlay out 0 (second_model ws)
  unfolding second_model variable_table
  second-laid out =
      let e : T ≡ 0 + length (take T ws) = omega (arith, table-length) in
      ap (λ (n : ℕ). overlay (overlay out 0 (take T ws)) n (drop (D + 1) ws)) e ∙ overlay-append out 0 (take T ws) _
