-- Words that start nothing are passed over by every count; the head of an item counts as many variables as it starts.
use Rattle.std.proofs.Common.{◌≡◌, refl, ◌∙◌, Bool, true, false, ◌||◌, List, ℕ, zero, suc, ◌+◌, ◌-◌, ◌<◌, ◌≤◌, arith, eqb, length, drop}
use Rattle.integers.proofs.Booleans.{neither}
use Rattle.words.specs.Kind as Kind
use Rattle.words.specs.Variables.{starts_pair, variables}
use Rattle.words.specs.Word.{kind, word_at}
use Rattle.variables.specs.Start.{starts}
use Rattle.variables.proofs.Walk.{at_none, at_one, at_last}
use Rattle.rowsystems.specs.Reading.{started}
use Rattle.rowreading.specs.Onward.{starts_kind, Plain}

-- what a word that starts nothing does not change, no such words change
pub along : {A : Type 0} (ws : List ℕ) (f : List ℕ → A) →
    ((a : ℕ) → a < length ws → starts_kind (kind (word_at ws a)) ≡ false → f (drop a ws) ≡ f (drop (a + 1) ws)) →
    (a b : ℕ) → Plain ws a b → a ≤ b → b ≤ length ws → f (drop a ws) ≡ f (drop b ws)
along {A} ws f one a b p l h = let e : a + (b - a) ≡ b = omega arith in rw e at (go (b - a) a (omega arith) (rw e p))
  where
    go : (d a : ℕ) → a + d ≤ length ws → Plain ws a (a + d) → f (drop a ws) ≡ f (drop (a + d) ws)
    go zero a h p = let e : a + 0 ≡ a = omega arith in rw e refl
    go (suc d) a h p =
        let e : a + suc d ≡ a + 1 + d = omega arith in
        rw e (one a (omega arith) (p a (omega arith) (omega arith)) ∙ go d (a + 1) (omega arith) (λ j l k. p j (omega arith) (omega arith)))

-- a word that starts nothing starts no variable
none-starts : (w : ℕ) → starts_kind (kind w) ≡ false → starts w ≡ false
unfolding starts_kind starts starts_pair
none-starts w e = (neither ((eqb (kind w) Kind.lower || eqb (kind w) Kind.auxiliary_lower) || eqb (kind w) Kind.boolean) ((eqb (kind w) Kind.at_most || eqb (kind w) Kind.equal) || eqb (kind w) Kind.product) e).0

pub plain-variables : (ws : List ℕ) (a b : ℕ) → Plain ws a b → a ≤ b → b ≤ length ws → variables (drop a ws) ≡ variables (drop b ws)
unfolding word_at
plain-variables ws = along ws variables (λ a h e. at_none ws a h (none-starts (word_at ws a) e))

-- n variables are counted at a place by a reading that starts at another, with so many before it
pub record CountedFrom (ws : List ℕ) (before start n at : ℕ) : Type 0 where
  pub few : n ≤ before + at
  pub number : n + length (variables (drop at ws)) ≡ before + length (variables (drop start ws))

pub none-counted : (ws : List ℕ) (before start : ℕ) → CountedFrom ws before start before start
none-counted ws before start = record { few = omega arith; number = refl }

module _ {ws : List ℕ} {before start n at : ℕ} (k : CountedFrom ws before start n at) where
  pub count_none : at < length ws → starts (word_at ws at) ≡ false → CountedFrom ws before start n (at + 1)
  unfolding word_at
  count_none h e = record { few = omega (arith, k.few); number = rw (at_none ws at h e) at k.number }

  pub count-one : at < length ws → starts (word_at ws at) ≡ true → CountedFrom ws before start (n + 1) (at + 1)
  unfolding word_at
  count-one h e = record { few = omega (arith, k.few); number = omega (arith, rw (at_one ws at h e) at k.number) }

  pub count-plain : {b : ℕ} → Plain ws at b → at ≤ b → b ≤ length ws → CountedFrom ws before start n b
  count-plain {b} p l h = record { few = omega (arith, k.few); number = rw (plain-variables ws at b p l h) at k.number }

  pub count_head : at < length ws → CountedFrom ws before start (n + started (word_at ws at)) (at + 1)
  unfolding started starts
  count_head h = go (starts (word_at ws at)) refl
    where
      go : (b : Bool) → starts (word_at ws at) ≡ b → CountedFrom ws before start (n + started (word_at ws at)) (at + 1)
      go true e = rw e (count-one h e)
      go false e = let z : n + 0 ≡ n = omega arith in rw (e, z) (count_none h e)

  pub counted : length ws ≤ at → n ≡ before + length (variables (drop start ws))
  counted h = omega (arith, rw (at_last ws at h) at k.number)
