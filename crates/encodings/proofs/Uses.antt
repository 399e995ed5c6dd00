-- The uses of each variable: what one constraint adds, that the counts are those of the definition, and the walk that counts them.
use Rattle.std.proofs.Common.{◌≡◌, refl, sym, ap, ◌∙◌, Bool, true, false, ◌||◌, List, [], ◌∷◌, ℕ, ◌+◌, ◌≤◌, ◌<◌, arith, eqb, length, get_or, set, drop, length-set, drop_of_length-le, get_or-set_same, get_or-set_other, eq-eqb, ne_eqb}
use native.Mathlib.Decide.{ℕ_discrete, dec_lt}
use lib.Seq.{set_out}
use Rattle.integers.specs.Choice.{◌if◌else◌}
use Rattle.integers.specs.Lists.{any, how_many}
use Rattle.models.specs.Model.{Constraint, var}
use Rattle.rules.specs.Shared.{choice, encodes}
use Rattle.encodings.specs.Uses.{choice_of, choosing, counted, no_uses, uses_from}
use Rattle.models.proofs.AllCodes.{Unknown}
use Rattle.encodings.proofs.Record.{encodes-by, encodes-of, no-choosing, get_or-none_yet, none-many}

pub counted-le : (us xs : List ℕ) (v : ℕ) → get_or (counted us xs) v 0 ≤ get_or us v 0 + 1
unfolding counted
counted-le us [] v = omega arith
counted-le us (x ∷ xs) v = go (ℕ_discrete v x) (dec_lt x (length us))
  where
    go : Dec (v ≡ x) → Dec (x < length us) → get_or (set us x (get_or us x 0 + 1)) v 0 ≤ get_or us v 0 + 1
    go (yes p) (yes l) = rw (p, get_or-set_same us x (get_or us x 0 + 1) 0 l) (omega arith)
    go (yes p) (no n) = rw (set_out us x (get_or us x 0 + 1) (omega (arith, n))) (omega arith)
    go (no n) d = rw (get_or-set_other us x v (get_or us x 0 + 1) 0 n) (omega arith)

pub counted-length : (us xs : List ℕ) → length (counted us xs) ≡ length us
unfolding counted
counted-length us [] = refl
counted-length us (x ∷ xs) = length-set us x _

-- the counts are those of the definition, for every variable that has a place
counted-at : (us xs : List ℕ) (v : ℕ) → v < length us → length xs ≤ 1 → get_or (counted us xs) v 0 ≡ (1 if any (eqb v) xs else 0) + get_or us v 0
unfolding counted any
counted-at us [] v l h = omega arith
counted-at us (x ∷ y ∷ xs) v l h = absurd (omega arith)
counted-at us (x ∷ []) v l h = go (ℕ_discrete v x)
  where
    go : Dec (v ≡ x) → get_or (set us x (get_or us x 0 + 1)) v 0 ≡ (1 if eqb v x || false else 0) + get_or us v 0
    go (yes p) = rw (p, get_or-set_same us x (get_or us x 0 + 1) 0 (rw p at l), eq-eqb x x refl) (omega arith)
    go (no n) = rw (get_or-set_other us x v (get_or us x 0 + 1) 0 n, ne_eqb v x n) (omega arith)

few-encoded : (c : Constraint) → length (encodes (choice c)) ≤ 1
few-encoded c = rw (encodes-by c) (go (choosing c.code))
  where
    go : (b : Bool) → length (var c.arguments 0 ∷ [] if b else []) ≤ 1
    go true = omega arith
    go false = omega arith

pub uses-are : (us : List ℕ) (cs : List Constraint) (v : ℕ) → v < length us → get_or (uses_from us cs) v 0 ≡ how_many (λ c. any (eqb v) (encodes (choice c))) cs + get_or us v 0
unfolding uses_from how_many
uses-are us [] v l = omega arith
uses-are us (c ∷ cs) v l =
    let xs = encodes (choice c) in
    omega (arith, uses-are (counted us xs) cs v (rw (counted-length us xs) l), counted-at us xs v l (few-encoded c))

pub uses-length : (us : List ℕ) (cs : List Constraint) → length (uses_from us cs) ≡ length us
unfolding uses_from
uses-length us [] = refl
uses-length us (c ∷ cs) = uses-length (counted us (encodes (choice c))) cs ∙ counted-length us (encodes (choice c))

-- ---- the walk over the constraints

-- the first k constraints are counted
pub record Counting (cs : List Constraint) (us : List ℕ) (k : ℕ) : Type 0 where
  pub rest : uses_from us (drop k cs) ≡ uses_from no_uses cs
  pub low : (v : ℕ) → get_or us v 0 ≤ k
  pub many : length us ≡ 256

-- a number that no builtin has counts nothing
pub none_counted : (us : List ℕ) {code : ℕ} (args : List ℕ) → Unknown code → us ≡ counted us (encodes (choice_of code args))
unfolding counted
none_counted us {code} args h = rw (encodes-of code args, no-choosing code h) refl

pub begun : (cs : List Constraint) {us : List ℕ} → us ≡ no_uses → Counting cs us 0
begun cs e = rw e record { rest = refl; low = λ v. omega (arith, get_or-none_yet v); many = none-many }

module _ {cs : List Constraint} {us : List ℕ} {k : ℕ} (l : Counting cs us k) where
  pub more : {c : Constraint} {us' : List ℕ} → drop k cs ≡ c ∷ drop (k + 1) cs → us' ≡ counted us (encodes (choice_of c.code c.arguments)) → Counting cs us' (k + 1)
  unfolding uses_from choice_of choice
  more {c} e f =
      let xs = encodes (choice c) in
      rw f
      record {
        rest = sym (ap (uses_from us) e) ∙ l.rest;
        low = λ v. omega (arith, counted-le us xs v, l.low v);
        many = counted-length us xs ∙ l.many;
      }

  pub done : length cs ≤ k → us ≡ uses_from no_uses cs
  unfolding uses_from
  done h = sym (ap (uses_from us) (drop_of_length-le cs h)) ∙ l.rest
