-- The walks over the variables: what is left from a place on, and one law for each way a turn ends.
use Rattle.std.proofs.Common.{◌≡◌, refl, ap, sym, ◌∙◌, Bool, true, false, ◌||◌, List, [], ◌∷◌, ℕ, ◌+◌, ◌<◌, ◌≤◌, arith, eqb, ℤ, length, get_or, drop, drop_of_length-le}
use Rattle.std.specs.Prelude.{count_by, cond}
use Rattle.std.proofs.lemmas.List.Recursion.{is_count_by}
use Rattle.integers.specs.Choice.{◌if◌else◌}
use Rattle.integers.specs.Bounds.{◌to◌, bit, within}
use Rattle.integers.specs.Terms.{value}
use Rattle.integers.specs.declared.Bounds.{Bounds}
use Rattle.integers.proofs.Tests.{false-true}
use Rattle.words.specs.Answer.{Answer, holds, out_of_bounds}
use Rattle.words.specs.Judge.{first_out_of_bounds}
use Rattle.words.specs.Variables.{starts_pair, variables}
use Rattle.words.specs.Word.{kind, signed, word_at}
use Rattle.words.proofs.Reading.{word-then, word-ahead}
use Rattle.variables.specs.Start.{starts, pair_bounds}
use Rattle.variables.proofs.Counted.{VariablesBefore}

-- the variables of a list that begins with a word
first-none : (w : ℕ) (ws : List ℕ) → starts w ≡ false → variables (w ∷ ws) ≡ variables ws
unfolding starts variables
first-none w ws = go (starts_pair w) (eqb (kind w) 3)
  where
    go : (a b : Bool) → (a || b) ≡ false → ((signed w to signed (word_at ws 0)) ∷ variables ws if a else bit ∷ variables ws if b else variables ws) ≡ variables ws
    go true b e = false-true (sym e)
    go false true e = false-true (sym e)
    go false false e = refl

first_one : (w : ℕ) (ws : List ℕ) → starts w ≡ true → variables (w ∷ ws) ≡ pair_bounds w (word_at ws 0) ∷ variables ws
unfolding starts variables pair_bounds
first_one w ws = go (starts_pair w) (eqb (kind w) 3)
  where
    B : Bounds
    B = signed w to signed (word_at ws 0)

    go : (a b : Bool) → (a || b) ≡ true → (B ∷ variables ws if a else bit ∷ variables ws if b else variables ws) ≡ (B if a else bit) ∷ variables ws
    go true b e = refl
    go false true e = refl
    go false false e = false-true e

-- and from a place on
module _ (ws : List ℕ) (at : ℕ) where
  pub at_none : at < length ws → starts (get_or ws at 0) ≡ false → variables (drop at ws) ≡ variables (drop (at + 1) ws)
  at_none h e = ap variables (word-then ws at h) ∙ first-none (get_or ws at 0) (drop (at + 1) ws) e

  pub at_one : at < length ws → starts (get_or ws at 0) ≡ true →
      variables (drop at ws) ≡ pair_bounds (get_or ws at 0) (word_at ws (at + 1)) ∷ variables (drop (at + 1) ws)
  at_one h e = ap variables (word-then ws at h) ∙ first_one (get_or ws at 0) (drop (at + 1) ws) e ∙ rw (word-ahead ws at 0 (at + 1) (omega arith))

  pub at_last : length ws ≤ at → variables (drop at ws) ≡ []
  unfolding variables
  at_last h = rw (drop_of_length-le ws h)

-- ---- counting

-- the words that start a variable are as many as the variables
pub counts : (ws : List ℕ) → count_by starts ws ≡ length (variables ws)
unfolding variables
counts ws = sym (is_count_by (λ ws. length (variables ws)) starts refl one ws)
  where
    one : (w : ℕ) (ws : List ℕ) → length (variables (w ∷ ws)) ≡ cond (starts w) (1 + length (variables ws)) (length (variables ws))
    one w ws = by-test (starts w) refl
      where
        by-test : (t : Bool) → starts w ≡ t → length (variables (w ∷ ws)) ≡ cond t (1 + length (variables ws)) (length (variables ws))
        by-test true e = rw (first_one w ws e) (omega arith)
        by-test false e = ap length (first-none w ws e)

module _ {ws : List ℕ} {n at : ℕ} (k : VariablesBefore ws n at) where
  pub count_none : at < length ws → starts (get_or ws at 0) ≡ false → VariablesBefore ws n (at + 1)
  count_none h e = record { few = omega (arith, k.few); number = rw (at_none ws at h e) at k.number }

  pub count-one : at < length ws → starts (get_or ws at 0) ≡ true → VariablesBefore ws (n + 1) (at + 1)
  count-one h e = record { few = omega (arith, k.few); number = omega (arith, rw (at_one ws at h e) at k.number) }

  -- where all are counted, none is left
  pub none_left : n ≡ length (variables ws) → variables (drop at ws) ≡ []
  none_left e = empty (variables (drop at ws)) (omega (arith, k.number))
    where
      empty : (Bs : List Bounds) → length Bs ≡ 0 → Bs ≡ []
      empty [] z = refl
      empty (B ∷ Bs) z = absurd (omega arith)

-- ---- judging: x variables stand before the place, and their values keep their bounds
abbrev out_from : List ℤ → ℕ → List ℕ → Answer
out_from vs x ws = first_out_of_bounds (value vs) x (variables ws) holds

pub record Kept (ws : List ℕ) (vs : List ℤ) (x at : ℕ) : Type 0 where
  pub rest : out_from vs x (drop at ws) ≡ out_from vs 0 ws

module _ {ws : List ℕ} {vs : List ℤ} {x at : ℕ} (k : Kept ws vs x at) where
  abbrev kept : Bool
  kept = within (pair_bounds (get_or ws at 0) (word_at ws (at + 1))) (value vs x)

  pub keep-none : at < length ws → starts (get_or ws at 0) ≡ false → Kept ws vs x (at + 1)
  keep-none h e = record { rest = rw (at_none ws at h e) at k.rest }

  pub keep_one : at < length ws → starts (get_or ws at 0) ≡ true → kept ≡ true → Kept ws vs (x + 1) (at + 1)
  unfolding first_out_of_bounds
  keep_one h e t = record { rest = rw (at_one ws at h e, t) at k.rest }

  pub break_one : at < length ws → starts (get_or ws at 0) ≡ true → kept ≡ false → out_of_bounds x ≡ out_from vs 0 ws
  unfolding first_out_of_bounds
  break_one h e t = rw (at_one ws at h e, t) at k.rest

  pub keep_all : variables (drop at ws) ≡ [] → holds ≡ out_from vs 0 ws
  unfolding first_out_of_bounds
  keep_all e = rw e at k.rest
