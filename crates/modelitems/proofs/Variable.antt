-- A variable: a pair of bounds, or one word. And the words of kinds 1 to 4, one by one.
use Rattle.std.proofs.Common.{◌≡◌, refl, ap, sym, ◌∙◌, ◌≢◌, ◌⊎◌, inl, inr, ⊎_elim, Bool, true, false, List, [], ◌∷◌, ◌++◌, append-nil, ℕ, suc, ◌+◌, ◌<◌, ◌≤◌, arith, eqb-true, ne_eqb, le-leb, eqb, length, get_or, drop}
use borrow.Author.Tests.{eqb-false}
use Rattle.integers.specs.Choice.{◌if◌else◌}
use Rattle.words.specs.Fault as Fault
use Rattle.words.specs.Word.{kind, word_at}
use Rattle.words.specs.Variables.{variables, starts_pair}
use Rattle.words.specs.Check.{step_over}
use Rattle.words.proofs.Reading.{word-then}
use Rattle.models.specs.Reading.{fault_end, fault_due_in, after_due, declared, started}
use Rattle.models.specs.InRange.{fault_start, fault_upper}
use Rattle.models.specs.Model.{constraints_from, source_words}
use Rattle.models.specs.declared.Due.TheVariants.{Start, Upper}
use Rattle.models.proofs.Sound.{is-start, at-lower, at-boolean, at_head, is-upper}
use Rattle.models.proofs.Constraints.{starts_none}
use Rattle.modelitems.specs.Onward.{onward}
use Rattle.modelitems.specs.Variable.{Declares}
use Rattle.modelitems.proofs.Onward.{fault_at, here, go_on, stop-at}
use Rattle.modelitems.proofs.Steps.{present}

-- ---- one word

module _ (ws : List ℕ) (at : ℕ) (l : at < length ws) where
  abbrev word : ℕ
  word = word_at ws at

  pub none-declared : kind word ≢ 1 → kind word ≢ 8 → kind word ≢ 3 → variables (drop at ws) ≡ variables (drop (at + 1) ws)
  unfolding variables starts_pair word_at
  none-declared a b c = ap variables (word-then ws at l) ∙ rw (ne_eqb (kind word) 1 a, ne_eqb (kind word) 8 b, ne_eqb (kind word) 3 c)

  pub one-declared : (k : ℕ) → kind word ≡ k → (k ≡ 1) ⊎ (k ≡ 3) → length (variables (drop at ws)) ≡ length (variables (drop (at + 1) ws)) + 1
  unfolding variables starts_pair word_at
  one-declared k e (inl z) = ap (λ vs. length (variables vs)) (word-then ws at l) ∙ rw (e, z) (omega arith)
  one-declared k e (inr z) = ap (λ vs. length (variables vs)) (word-then ws at l) ∙ rw (e, z) (omega arith)

  pub one-source : kind word ≤ 3 → at + length (source_words (drop at ws)) ≡ at + 1 + length (source_words (drop (at + 1) ws))
  unfolding source_words word_at
  one-source k = let e : length (source_words (drop at ws)) ≡ suc (length (source_words (drop (at + 1) ws))) = ap (λ vs. length (source_words vs)) (word-then ws at l) ∙ rw (le-leb (kind word) 3 k) in omega arith

  pub none-posed : kind word ≢ 4 → constraints_from at (drop at ws) ≡ constraints_from (at + 1) (drop (at + 1) ws)
  unfolding word_at
  none-posed f = starts_none ws at l f

-- what a word that starts a variable declares
abbrev one_of : Bool → Bool → List ℕ
one_of a b = 1 ∷ [] if a else 2 ∷ [] if b else []

declared-one : (w d : ℕ) → d ≡ get_or (declared w) 0 0 → (d ≡ 0 → ⊥) → declared w ≡ d ∷ []
unfolding declared
declared-one w d = go (eqb (kind w) 1) (eqb (kind w) 3)
  where
    go : (a b : Bool) → d ≡ get_or (one_of a b) 0 0 → (d ≡ 0 → ⊥) → one_of a b ≡ d ∷ []
    go true b e f = rw e
    go false true e f = rw e
    go false false e f = absurd (f e)

-- ---- a variable

module _ (ws : List ℕ) (v at : ℕ) (d : ℕ) (e : d ≡ get_or (declared (word_at ws at)) 0 0) (n : d ≡ 0 → ⊥) where
  abbrev w : ℕ
  w = word_at ws at

  abbrev u : ℕ
  u = word_at ws (at + 1)

  pub refused-first : (f : ℕ) → f ≡ fault_start v 0 w → (f ≡ 0 → ⊥) → Declares ws v at d (record { number = f; at = at })
  unfolding fault_due_in fault_end
  refused-first f g z = record {
    reads = λ ts q. stop-at ws ts Start 0 at f refl (rw q g) z ∙ rw (ne_eqb f 0 z);
    room = λ y. absurd (z y);
    on = λ y. absurd (z y);
    inside = λ y. absurd (z y);
    passed = λ y. absurd (z y);
  }

  -- the first word, by its kind
  first : fault_start v 0 w ≡ 0 → ((kind w ≡ 1) × (v < 256)) ⊎ ((kind w ≡ 3) × (v < 256))
  unfolding declared
  first z = elim (is-start v 0 w z) [
    | at-lower few k i ↦ inl (k, few)
    | at-boolean few k p ↦ inr (k, few)
    | at_head a b q ↦ absurd (n (e ∙ rw (ne_eqb (kind w) 1 a, ne_eqb (kind w) 3 b)))
  ]

  has_room : fault_start v 0 w ≡ 0 → v < 256
  has_room z = ⊎_elim (λ h. h.1) (λ h. h.1) (first z)

  none-started : (k : ℕ) → kind w ≡ k → eqb k 4 ≡ false → started w ≡ 0
  unfolding started
  none-started k q z = rw (q, z)

  -- of an integer variable
  module _ (z : fault_start v 0 w ≡ 0) (k : kind w ≡ 1) where
    started-pair : (ts : List ℕ) → length ts ≡ v → (at < length ws) × (onward Start ts 0 at ws ≡ onward (Upper w) (ts ++ (d ∷ [])) 0 (at + 1) ws)
    unfolding fault_due_in after_due
    started-pair ts q =
        let y : 0 ≡ fault_at ws ts Start 0 at = rw q (sym z) in
        (here ws ts Start 0 at y, go_on ws ts Start 0 at y ∙ rw (k, declared-one w d e n, none-started 1 k refl))

    pub pair : (f : ℕ) → f ≡ fault_upper w u → Declares ws v at d (step_over f (at + 1))
    unfolding step_over fault_end fault_due_in after_due declared started
    pair f g = go (eqb f Fault.none) refl
      where
        go : (b : Bool) → eqb f Fault.none ≡ b → Declares ws v at d (record { number = f; at = at + 1 + 1 } if b else record { number = f; at = at + 1 })
        go true t =
            let y : fault_upper w u ≡ 0 = sym g ∙ eqb-true f 0 t in
            let i = (is-upper u w y).0 in
            let l = here ws [] (Upper w) 0 (at + 1) (sym y) in
            record {
              reads = λ ts q. (started-pair ts q).1 ∙ go_on ws (ts ++ (d ∷ [])) (Upper w) 0 (at + 1) (sym y) ∙ rw (t, i, append-nil (ts ++ (d ∷ [])));
              room = λ x. has_room z;
              on = λ x. omega arith;
              inside = λ x. omega arith;
              passed = λ x. record {
                one_variable = one-declared ws at (omega arith) 1 k (inl refl) ∙ rw (none-declared ws (at + 1) l (λ j. omega arith) (λ j. omega arith) (λ j. omega arith));
                more_sources = one-source ws at (omega arith) (omega arith) ∙ one-source ws (at + 1) l (omega arith);
                same_constraints = none-posed ws at (omega arith) (λ j. omega arith) ∙ none-posed ws (at + 1) l (λ j. omega arith);
              };
            }
        go false t =
            let y = eqb-false f 0 t in
            record {
              reads = λ ts q. (started-pair ts q).1 ∙ stop-at ws (ts ++ (d ∷ [])) (Upper w) 0 (at + 1) f refl g y ∙ rw t;
              room = λ x. absurd (y x);
              on = λ x. absurd (y x);
              inside = λ x. absurd (y x);
              passed = λ x. absurd (y x);
            }

  -- of a Boolean one
  pub boolean : fault_start v 0 w ≡ 0 → kind w ≢ 1 → Declares ws v at d (record { number = 0; at = at + 1 })
  unfolding fault_due_in after_due
  boolean z m =
      let k : kind w ≡ 3 = ⊎_elim (λ h. absurd (m h.0)) (λ h. h.0) (first z) in
      let l = present ws at (omega arith) in
      record {
        reads = λ ts q. let y : 0 ≡ fault_at ws ts Start 0 at = rw q (sym z) in go_on ws ts Start 0 at y ∙ rw (k, declared-one w d e n, none-started 3 k refl);
        room = λ x. has_room z;
        on = λ x. omega arith;
        inside = λ x. omega arith;
        passed = λ x. record {
          one_variable = one-declared ws at l 3 k (inr refl);
          more_sources = one-source ws at l (omega arith);
          same_constraints = none-posed ws at l (λ j. omega arith);
        };
      }
