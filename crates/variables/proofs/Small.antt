-- The bounds of variables, and values that keep them, are no farther from 0 than signed payloads are.
use Rattle.std.proofs.Common.{◌≡◌, refl, Bool, true, false, List, [], ◌∷◌, ℕ, zero, suc, ◌+◌, arith, ltb, eqb, ℤ, pos, length, ltb-true, ltb-false}
use lib.ListN.{get_or-eq_default}
use Rattle.integers.specs.Choice.{◌if◌else◌}
use Rattle.integers.specs.Bounds.{◌to◌, bit, within, bounds_in}
use Rattle.integers.specs.Terms.{value}
use Rattle.integers.specs.declared.Bounds.{Bounds}
use Rattle.integers.proofs.Tests.{says-within}
use Rattle.words.specs.Answer.{holds}
use Rattle.words.specs.Judge.{first_out_of_bounds}
use Rattle.words.specs.Small.{Near, Small}
use Rattle.words.specs.Variables.{starts_pair, variables}
use Rattle.words.specs.Word.{kind, signed, word_at}
use Rattle.words.proofs.Judge.{first-outside}
use Rattle.words.proofs.ReadBack.{between-near, signed-near}

abbrev Narrow : Bounds → Type 0
Narrow B = Near B.lower × Near B.upper

first : (Bs : List Bounds) (B : Bounds) → Narrow B → ((v : ℕ) → Narrow (bounds_in Bs v)) → (v : ℕ) → Narrow (bounds_in (B ∷ Bs) v)
unfolding bounds_in
first Bs B n rest zero = n
first Bs B n rest (suc v) = rest v

pub bounds-near : (ws : List ℕ) (v : ℕ) → Near (bounds_in (variables ws) v).lower × Near (bounds_in (variables ws) v).upper
unfolding bounds_in variables
bounds-near [] = λ v. (omega arith, omega arith)
bounds-near (w ∷ ws) = go (starts_pair w) (eqb (kind w) 3) (bounds-near ws)
  where
    go : (a b : Bool) → ((v : ℕ) → Narrow (bounds_in (variables ws) v)) →
        (v : ℕ) → Narrow (bounds_in ((signed w to signed (word_at ws 0)) ∷ variables ws if a else bit ∷ variables ws if b else variables ws) v)
    go true b = first (variables ws) (signed w to signed (word_at ws 0)) (signed-near w, signed-near (word_at ws 0))
    go false true = first (variables ws) bit (omega arith, omega arith)
    go false false = λ rest. rest

-- of a list of values with one for each variable, none of them out of bounds; also past its end
pub small : (ws : List ℕ) (vs : List ℤ) → length vs ≡ length (variables ws) → first_out_of_bounds (value vs) 0 (variables ws) holds ≡ holds → Small vs
unfolding value
small ws vs n e x = go (ltb x (length vs)) refl
  where
    go : (b : Bool) → ltb x (length vs) ≡ b → Near (value vs x)
    go true t =
        let z : 0 + x ≡ x = omega arith in
        let B = bounds_in (variables ws) x in
        let k : within B (value vs x) ≡ true = rw z at (((first-outside (value vs) 0 (variables ws) holds).0 e).0 x (omega (arith, ltb-true x (length vs) t))) in
        let i = (says-within B (value vs x)).0 k in
        let b = bounds-near ws x in
        between-near B.lower (value vs x) B.upper i.0 i.1 b.0 b.1
    go false t = rw (get_or-eq_default vs (pos 0) {n = x} (ltb-false x (length vs) t)) (omega arith)
