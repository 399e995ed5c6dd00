-- The one pass: what it knows at a place, past an item, and where it stops.
use Rattle.std.proofs.Common.{◌≡◌, refl, sym, ap, ◌∙◌, Bool, true, false, ◌||◌, List, [], ◌∷◌, ℕ, ◌+◌, ◌<◌, ◌≤◌, arith, ltb-true, ltb-false, eqb-true, eq-eqb, ne_eqb, eqb, ltb, ℤ, length, drop, Result, Ok, Err}
use Rattle.std.specs.Prelude.{IfOk}
use Rattle.integers.specs.Choice.{◌if◌else◌}
use Rattle.integers.specs.Bounds.{◌to◌, bit, within}
use Rattle.integers.specs.Terms.{value}
use Rattle.integers.proofs.Tests.{false-true, says-within}
use Rattle.words.specs.Answer.{Answer, out_of_bounds, is_false}
use Rattle.words.specs.Faults.{refusal_of, said_of}
use Rattle.words.specs.Judge.{first_false, first_out_of_bounds}
use Rattle.words.specs.Fault as Fault
use Rattle.words.specs.Kind as Kind
use Rattle.words.specs.Small.{Near}
use Rattle.words.specs.Variables.{starts_pair, variables}
use Rattle.words.specs.Word.{kind, signed, word_at}
use Rattle.words.specs.Refusals as refusal
use Rattle.words.specs.declared.fault.Refusal.{Refusal}
use Rattle.words.specs.declared.answer.Verdict.{Verdict}
use Rattle.words.specs.declared.answer.Verdict.TheVariants.{Holds, OutOfBounds, False}
use Rattle.words.proofs.ReadBack.{between-near, signed-near}
use Rattle.variables.specs.Start.{starts, pair_bounds}
use Rattle.variables.proofs.Walk.{at_none, at_one, at_last}
use Rattle.rowsystems.specs.Row.{Row, satisfied}
use Rattle.rowsystems.specs.RowSystem.{rows}
use Rattle.rowsystems.specs.declared.Due.{Due}
use Rattle.rowreading.specs.Item.{start_due}
use Rattle.rowreading.specs.Onward.{starts_kind, Plain, onward, stopped, resumed}
use Rattle.rowreading.proofs.Counts.{CountedFrom, none-counted, count_none, count-one, count-plain, counted, along, plain-variables}
use Rattle.rowreading.proofs.Onward.{at_the_end}
use Rattle.integers.proofs.Booleans.{neither}
use Rattle.words.specs.Check.{Step}
use Rattle.rowsystems.specs.OneWord.{starts_row, row_of}
use Rattle.rowterms.specs.Values.{ValuesKnown}
use Rattle.rowitems.specs.Passing.{ItemPassed}
use Rattle.rowjudge.specs.Judging.{ValueOrOutside, with_row, judged_on, JudgedOn}
use Rattle.rowjudge.specs.declared.Judged.{Judged}
use Rattle.rowsystems.proofs.Walk.{starts_none, starts-one, none_left}

-- ---- what the rows so far say, and those that are left

abbrev pub tells : (Row ℕ → Bool) → ℕ → Verdict → List (Row ℕ) → Answer
tells t k Holds xs = first_false t k xs
tells t k (OutOfBounds i) xs = out_of_bounds i
tells t k (False i) xs = is_false i

module _ (t : Row ℕ → Bool) (k : ℕ) where
  row_told : (said : Verdict) (x : Row ℕ) (xs : List (Row ℕ)) → tells t k said (x ∷ xs) ≡ tells t (k + 1) (with_row said (t x) k) xs
  unfolding first_false
  row_told Holds x xs = go (t x)
    where
      go : (b : Bool) → (first_false t (k + 1) xs if b else is_false k) ≡ tells t (k + 1) (with_row Holds b k) xs
      go true = refl
      go false = refl
  row_told (OutOfBounds i) x xs = refl
  row_told (False i) x xs = refl

  none_told : (said : Verdict) → said_of said ≡ tells t k said []
  unfolding first_false
  none_told Holds = refl
  none_told (OutOfBounds i) = refl
  none_told (False i) = refl

-- ---- what the pass knows at a place, past n variables and k rows and products

pub record Judging (ws : List ℕ) (vs : List ℤ) (before start first n k : ℕ) (said : Verdict) (at : ℕ) : Type 0 where
  pub few : k ≤ first + at
  pub counted : CountedFrom ws before start n at
  pub known : ValuesKnown vs n
  pub told : first_out_of_bounds (value vs) n (variables (drop at ws)) (tells (satisfied (value vs)) k said (rows (drop at ws))) ≡ judged_on ws vs before start first

pub begun : (ws : List ℕ) (vs : List ℤ) (before start first : ℕ) → ValuesKnown vs before → Judging ws vs before start first before first Holds start
unfolding judged_on
begun ws vs before start first f = record { few = omega arith; counted = none-counted ws before start; known = f; told = refl }

-- words that start nothing start no row
pub plain_rows : (ws : List ℕ) (a b : ℕ) → Plain ws a b → a ≤ b → b ≤ length ws → rows (drop a ws) ≡ rows (drop b ws)
unfolding word_at starts_kind starts_row
plain_rows ws = along ws rows (λ a h e. let k = kind (word_at ws a) in starts_none ws a h (neither ((eqb k Kind.lower || eqb k Kind.auxiliary_lower) || eqb k Kind.boolean) ((eqb k Kind.at_most || eqb k Kind.equal) || eqb k Kind.product) e).1)

plain-to : {ws : List ℕ} {vs : List ℤ} {before start first n k : ℕ} {said : Verdict} {a b : ℕ} → Judging ws vs before start first n k said a → Plain ws a b → a ≤ b → b ≤ length ws →
    Judging ws vs before start first n k said b
plain-to {ws} {a = a} {b} j p l h =
    record {
      few = omega (arith, j.few);
      counted = count-plain j.counted p l h;
      known = j.known;
      told = rw (plain-variables ws a b p l h, plain_rows ws a b p l h) at j.told;
    }

-- ---- past an item

-- no row starts where a variable does
variable_no_row : (w : ℕ) → starts w ≡ true → starts_row w ≡ false
unfolding starts starts_pair starts_row
variable_no_row w s = go (eqb (kind w) Kind.lower) (eqb (kind w) Kind.auxiliary_lower) (eqb (kind w) Kind.boolean) refl refl refl s
  where
    no : (k : ℕ) → kind w ≡ k → ((eqb k Kind.at_most || eqb k Kind.equal) || eqb k Kind.product) ≡ false → ((eqb (kind w) Kind.at_most || eqb (kind w) Kind.equal) || eqb (kind w) Kind.product) ≡ false
    no k e z = rw e z

    go : (a b c : Bool) → eqb (kind w) Kind.lower ≡ a → eqb (kind w) Kind.auxiliary_lower ≡ b → eqb (kind w) Kind.boolean ≡ c → ((a || b) || c) ≡ true →
        ((eqb (kind w) Kind.at_most || eqb (kind w) Kind.equal) || eqb (kind w) Kind.product) ≡ false
    go true b c f g h t = no Kind.lower (eqb-true (kind w) Kind.lower f) refl
    go false true c f g h t = no Kind.auxiliary_lower (eqb-true (kind w) Kind.auxiliary_lower g) refl
    go false false true f g h t = no Kind.boolean (eqb-true (kind w) Kind.boolean h) refl
    go false false false f g h t = false-true t

-- a value within its bounds is no farther from 0 than signed payloads are
kept_near : (w u : ℕ) (v : ℤ) → within (pair_bounds w u) v ≡ true → Near v
unfolding pair_bounds
kept_near w u v e = go (starts_pair w) e
  where
    go : (b : Bool) → within ((signed w to signed u) if b else bit) v ≡ true → Near v
    go true e = let i = (says-within (signed w to signed u) v).0 e in between-near (signed w) v (signed u) i.0 i.1 (signed-near w) (signed-near u)
    go false e = let i = (says-within bit v).0 e in between-near bit.lower v bit.upper i.0 i.1 (omega arith) (omega arith)

known_more : (vs : List ℤ) (n : ℕ) → ValuesKnown vs n → n + 1 ≤ length vs → Near (value vs n) → ValuesKnown vs (n + 1)
known_more vs n f l h = (l, λ x b. go x b (ltb x n) refl)
  where
    go : (x : ℕ) → x < n + 1 → (t : Bool) → ltb x n ≡ t → Near (value vs x)
    go x b true e = f.1 x (ltb-true x n e)
    go x b false e = let q : n ≡ x = omega (arith, ltb-false x n e) in rw (← q) h

module _ {ws : List ℕ} {vs : List ℤ} {before start first n k : ℕ} {said : Verdict} {at : ℕ} (j : Judging ws vs before start first n k said at) (h : at < length ws) where
  abbrev w : ℕ
  w = word_at ws at

  -- a number within bounds is a value that is there
  there : (v : ℤ) → ValueOrOutside vs n v → within (pair_bounds w (word_at ws (at + 1))) v ≡ true → n < length vs
  there v f e = go (ltb n (length vs)) refl
    where
      go : (b : Bool) → ltb n (length vs) ≡ b → n < length vs
      go true q = ltb-true n (length vs) q
      go false q = absurd (f.1 (ltb-false n (length vs) q) (kept_near w (word_at ws (at + 1)) v e))

  pub variable-judged : {v : ℤ} {b : ℕ} → starts w ≡ true → ValueOrOutside vs n v → within (pair_bounds w (word_at ws (at + 1))) v ≡ true →
      Plain ws (at + 1) b → at + 1 ≤ b → b ≤ length ws → Judging ws vs before start first (n + 1) k said b
  unfolding word_at first_out_of_bounds
  variable-judged {v} s f e p l m =
      let known = there v f e in
      let kept = rw (f.0 known) at e in
      plain-to
      (record {
        few = omega (arith, j.few);
        counted = count-one j.counted h s;
        known = known_more vs n j.known (omega arith) (kept_near w (word_at ws (at + 1)) (value vs n) kept);
        told = rw (at_one ws at h s, kept, starts_none ws at h (variable_no_row w s)) at j.told;
      })
      p l m

  -- a value out of its bounds is what is named, and the variables of the rest are counted
  pub left : {sources : Bool} {v : ℤ} {b : ℕ} → starts w ≡ true → ValueOrOutside vs n v → within (pair_bounds w (word_at ws (at + 1))) v ≡ false →
      Plain ws (at + 1) b → at + 1 ≤ b → b ≤ length ws → (q : Result Judged Refusal) → refusal_of q ≡ onward (start_due sources) before start ws →
      IfOk q (λ r. (r.variables ≡ n + 1 + length (variables (drop b ws))) × (said_of r.said ≡ out_of_bounds n)) → JudgedOn ws vs sources before start first q
  unfolding word_at first_out_of_bounds
  left s f e p l m (Err x) a c = record { reads = a; counts = tt; says = tt }
  left s f e p l m (Ok x) a c = record {
    reads = a;
    counts = c.0 ∙ (count-plain (count-one j.counted h s) p l m).number;
    says = λ g. c.1 ∙ rw (at_one ws at h s, rw (f.0 (omega (arith, g, c.0))) at e) at j.told;
  }

  pub row-judged : {b : ℕ} → starts w ≡ false → starts_row w ≡ true → Plain ws (at + 1) b → at + 1 ≤ b → b ≤ length ws →
      Judging ws vs before start first n (k + 1) (with_row said (satisfied (value vs) (row_of w (drop (at + 1) ws))) k) b
  unfolding word_at
  row-judged s r p l m =
      plain-to
      (record {
        few = omega (arith, j.few);
        counted = count_none j.counted h s;
        known = j.known;
        told = rw (at_none ws at h s, starts-one ws at h r, row_told) at j.told;
      })
      p l m

-- ---- where the pass goes on, and where it stops

module _ {ws : List ℕ} {s : Bool} {n at m : ℕ} {d : Due} {r : Step} (g : ItemPassed ws s n at d m r) where
  pub goes : r.number ≡ 0 → onward (start_due s) n at ws ≡ onward d m r.at ws
  unfolding resumed
  goes z = g.reads ∙ rw (eq-eqb r.number 0 z)

  pub halts : (r.number ≡ 0 → ⊥) → onward (start_due s) n at ws ≡ stopped ws r.number r.at
  unfolding resumed
  halts z = g.reads ∙ rw (ne_eqb r.number 0 z)

module _ {ws : List ℕ} {vs : List ℤ} {before start first n k : ℕ} {said : Verdict} {at : ℕ} where
  all-counted : Judging ws vs before start first n k said at → length ws ≤ at → n ≡ before + length (variables (drop start ws))
  all-counted j h = counted j.counted h

  all-judged : Judging ws vs before start first n k said at → length ws ≤ at → said_of said ≡ judged_on ws vs before start first
  unfolding first_out_of_bounds
  all-judged j h = none_told (satisfied (value vs)) k said ∙ rw (at_last ws at h, none_left ws at h) at j.told

-- the pass stops at a place with a fault, which is none past the end word: then all is judged
pub record Stopping (ws : List ℕ) (vs : List ℤ) (sources : Bool) (before start first n : ℕ) (said : Verdict) (f p : ℕ) : Type 0 where
  pub faulty : f ≡ 0 → ⊥
  pub reads : stopped ws f p ≡ onward (start_due sources) before start ws
  pub all : f ≡ Fault.word_after_end → length ws ≤ p → (n ≡ before + length (variables (drop start ws))) × (said_of said ≡ judged_on ws vs before start first)

pub stops : {ws : List ℕ} {vs : List ℤ} {sources : Bool} {before start first n k : ℕ} {said : Verdict} {at : ℕ} {s : Bool} {m : ℕ} {d : Due} {r : Step} →
    Judging ws vs before start first n k said at → ItemPassed ws s n at d m r → (r.number ≡ 0 → ⊥) → onward (start_due s) n at ws ≡ onward (start_due sources) before start ws →
    Stopping ws vs sources before start first n said r.number r.at
stops {ws} {vs} {n = n} {said = said} {r = r} j g z e =
    record {
      faulty = z;
      reads = sym (halts g z) ∙ e;
      all = λ f h. let past = plain-to j (g.last f) g.on g.inside in (all-counted past h, all-judged past h);
    }

pub stopped-judged : {ws : List ℕ} {vs : List ℤ} {sources : Bool} {before start first n : ℕ} {said : Verdict} {f p : ℕ} → Stopping ws vs sources before start first n said f p →
    (q : Result Judged Refusal) → refusal_of q ≡ stopped ws f p → IfOk q (λ j. (j.variables ≡ n) × (j.said ≡ said)) → JudgedOn ws vs sources before start first q
stopped-judged s (Err x) a b = record { reads = a ∙ s.reads; counts = tt; says = tt }
stopped-judged {ws} {f = f} {p} s (Ok x) a b =
    let end = at_the_end ws f p s.faulty (ap (λ (x : refusal.Refusal). x.number) (sym a)) in
    let all = s.all end.0 end.1 in
    record { reads = a ∙ s.reads; counts = b.0 ∙ all.0; says = λ h. ap said_of b.1 ∙ all.1 }
