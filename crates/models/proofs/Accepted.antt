-- What follows from `read_model ws ≡ accepted`: few words, variables and constraints, ordered bounds in the range, arguments of the right type, known codes, and how the words split.
-- For the callers that owe limits, and for the theorems about the row system of a model.
use Rattle.std.proofs.Common.{◌≡◌, refl, ap, ◌∙◌, Bool, true, false, List, [], ◌∷◌, ◌++◌, ℕ, zero, suc, ◌+◌, ◌*◌, ◌≤◌, ◌<◌, arith, zero-add, le_trans, mul-le-mul_left, leb, ltb, pos, length, length-append, ltb-false, le-leb}
use borrow.Author.Tests.{lt-leb}
use Rattle.integers.specs.Choice.{◌if◌else◌}
use Rattle.integers.specs.Bounds.{bit, bounds_in}
use Rattle.integers.specs.declared.Bounds.{Bounds}
use Rattle.integers.proofs.Linear.{arith_z}
use Rattle.integers.proofs.Lists.{all_implies}
use Rattle.integers.proofs.Tests.{All}
use Rattle.words.specs.Word.{kind}
use Rattle.words.specs.Refusal.{◌at_place◌, accepted, first_fault}
use Rattle.words.specs.Refusals.{Refusal}
use Rattle.words.specs.Variables.{variables}
use Rattle.words.proofs.Sources.{Ordered, Sources, none, integer, boolean}
use Rattle.words.proofs.ReadBack.{says_range}
use Rattle.models.specs.Table as Table
use Rattle.models.specs.Builtin.{Builtin}
use Rattle.models.specs.Shape as Shape
use Rattle.models.specs.Model.{Constraint, constraints_from, constraints, source_words, builtin}
use Rattle.models.specs.Reading.{after, ended, begin, read_model, read_model_in}
use Rattle.models.specs.InRange.{fault}
use Rattle.models.proofs.Arguments.{integer_arguments, boolean_arguments}
use Rattle.models.proofs.Sound.{sound}
use Rattle.models.proofs.Fits.{Named}
use Rattle.models.proofs.Form.{Posed, end, constraint, model}
use Rattle.models.proofs.Typed.{Typed, typed_at}
use Rattle.models.proofs.Contents.{argument_words, constraint_words, Fitting, Contents, contents, Matches, Parts, parts}

-- ---- bounds

sources-ordered : {src : List ℕ} {Bs : List Bounds} → Sources src Bs → All Ordered Bs
sources-ordered none = tt
sources-ordered (integer k m o r) = (o, sources-ordered r)
sources-ordered (boolean k z r) = (record { rising = omega arith_z; lower_in = (says_range (pos 0)).1 (omega arith_z, omega arith_z); upper_in = (says_range (pos 1)).1 (omega arith_z, omega arith_z) }, sources-ordered r)

-- ---- types and bounds

matched_length : (ts : List ℕ) (Bs : List Bounds) → Matches ts Bs → length Bs ≡ length ts
matched_length [] [] h = refl
matched_length [] (B ∷ Bs) h = absurd h
matched_length (t ∷ ts) [] h = absurd h
matched_length (t ∷ ts) (B ∷ Bs) h = ap suc (matched_length ts Bs h.1)

named-below : (ts : List ℕ) (t v : ℕ) → 1 ≤ t → Named ts t v → v < length ts
named-below [] t v l e = absurd (omega arith)
named-below (x ∷ ts) t zero l e = omega arith
named-below (x ∷ ts) t (suc v) l e = omega (arith, named-below ts t v l e)

named-bit : (ts : List ℕ) (Bs : List Bounds) → Matches ts Bs → (v : ℕ) → Named ts Shape.boolean v → bounds_in Bs v ≡ bit
unfolding bounds_in
named-bit [] Bs h v e = absurd (omega arith)
named-bit (t ∷ ts) [] h v e = absurd h
named-bit (t ∷ ts) (B ∷ Bs) h zero e = h.0 e
named-bit (t ∷ ts) (B ∷ Bs) h (suc v) e = named-bit ts Bs h.1 v e

-- a builtin's variables are among those of the bounds Bs, the Boolean ones with the bounds 0 and 1
pub record TypedIn (Bs : List Bounds) (b : Builtin) : Type 0 where
  pub integers : All (λ v. v < length Bs) (integer_arguments b)
  pub booleans : All (λ v. (v < length Bs) × (bounds_in Bs v ≡ bit)) (boolean_arguments b)

typed_in : (ts : List ℕ) (Bs : List Bounds) → Matches ts Bs → (b : Builtin) → Typed ts b → TypedIn Bs b
typed_in ts Bs m b h =
    let e = matched_length ts Bs m in
    record {
      integers = all_implies _ _ (λ v n. omega (arith, named-below ts 1 v (omega arith) n)) (integer_arguments b) h.0;
      booleans = all_implies _ _ (λ v n. (omega (arith, named-below ts 2 v (omega arith) n), named-bit ts Bs m v n)) (boolean_arguments b) h.1;
    }

fitting-typed : (ts : List ℕ) (c : Constraint) → Fitting ts c → Typed ts (builtin c)
unfolding builtin
fitting-typed ts c h = typed_at ts c.code h.low h.high c.arguments h.fits

-- ---- the words

-- the first word, if there is one, is no variable's
abbrev pub Late : List ℕ → Type 0
Late [] = Unit {0}
Late (w ∷ ws) = leb (kind w) 3 ≡ false

pub record Split (ws : List ℕ) : Type 0 where
  pub src : List ℕ
  pub rest : List ℕ
  pub whole : ws ≡ src ++ rest
  pub sources : Sources src (variables ws)
  pub front : All (λ w. leb (kind w) 3 ≡ true) src
  pub late : Late rest
  pub same_constraints : constraints ws ≡ constraints_from (length src) rest
  pub counted : length src + constraint_words (constraints ws) + 1 ≡ length ws

sources-front : {src : List ℕ} {Bs : List Bounds} → Sources src Bs → All (λ w. leb (kind w) 3 ≡ true) src
sources-front none = tt
sources-front (integer {l} {u} k m o r) = (le-leb (kind l) 3 (omega arith), (le-leb (kind u) 3 (omega arith), sources-front r))
sources-front (boolean {w} k z r) = (le-leb (kind w) 3 (omega arith), sources-front r)

posed-late : {ts : List ℕ} {c : ℕ} {ws : List ℕ} → Posed ts c ws → Late ws
posed-late (end {c} {w} k) = lt-leb (kind w) 3 (omega arith)
posed-late (constraint {c} {w} few k lo hi f l p r) = lt-leb (kind w) 3 (omega arith)

-- the words of the variables are the front
pub sources-are : {ws : List ℕ} (s : Split ws) → source_words ws ≡ s.src
unfolding source_words
sources-are {ws} s = ap source_words s.whole ∙ go s.src s.rest s.front s.late
  where
    go : (src rest : List ℕ) → All (λ w. leb (kind w) 3 ≡ true) src → Late rest → source_words (src ++ rest) ≡ src
    go [] [] h l = refl
    go [] (w ∷ rest) h l = rw l
    go (w ∷ src) rest h l = rw h.0 (ap (λ vs. w ∷ vs) (go src rest h.1 l))

-- ---- sums over constraints

abbrev pub total : (Constraint → ℕ) → List Constraint → ℕ
total f [] = 0
total f (c ∷ cs) = f c + total f cs

total-le : (f : Constraint → ℕ) (a : ℕ) (cs : List Constraint) → All (λ c. f c ≤ a * (1 + argument_words c)) cs → total f cs ≤ a * constraint_words cs
total-le f a [] h = omega arith
total-le f a (c ∷ cs) h = omega (arith, h.0, total-le f a cs h.1)

-- ---- accepted words

module _ (ws : List ℕ) (h : read_model ws ≡ accepted) where
  read : (length ws ≤ 8192) × (first_fault fault after ended begin 0 ws ≡ accepted)
  unfolding read_model_in
  read = go (ltb 8192 (length ws)) refl h
    where
      go : (t : Bool) → ltb 8192 (length ws) ≡ t → ((1 at_place 0) if t else first_fault fault after ended begin 0 ws) ≡ accepted → (length ws ≤ 8192) × (first_fault fault after ended begin 0 ws ≡ accepted)
      go true e f = absurd (let z : ◌≡◌ {A = ℕ} 1 0 = ap (λ (r : Refusal). r.number) f in omega arith)
      go false e f = (ltb-false _ _ e, f)

  form : Parts [] 0 ws
  form = parts (omega arith) (model [] ws (sound ws begin 0 read.1)) 0

  inside : Contents form.types 0 (0 + length form.src) form.rest
  inside = contents (omega arith) form.after (0 + length form.src)

  same : constraints ws ≡ constraints_from (0 + length form.src) form.rest
  unfolding constraints
  same = form.same_constraints

  pub few_words : length ws ≤ 8192
  few_words = read.0

  pub few-variables : length (variables ws) ≤ 256
  few-variables = omega (arith, form.few, matched_length form.types (variables ws) form.matches)

  pub few-constraints : length (constraints ws) ≤ 256
  few-constraints = rw same (omega (arith, inside.few))

  pub ordered : All Ordered (variables ws)
  ordered = sources-ordered form.sources

  -- what holds of a constraint that fits the variables' types holds of all constraints
  each : (Q : Constraint → Type 0) → ((c : Constraint) → Fitting form.types c → Q c) → All Q (constraints ws)
  each Q f = rw same (all_implies (Fitting form.types) Q f (constraints_from (0 + length form.src) form.rest) inside.fitting)

  pub typed : All (λ c. TypedIn (variables ws) (builtin c)) (constraints ws)
  typed = each _ (λ c f. typed_in form.types (variables ws) form.matches (builtin c) (fitting-typed form.types c f))

  pub coded : All (λ c. (1 ≤ c.code) × (c.code ≤ Table.last)) (constraints ws)
  coded = each (λ c. (1 ≤ c.code) × (c.code ≤ Table.last)) (λ c f. (f.low, f.high))

  pub split : Split ws
  split = record {
    src = form.src;
    rest = form.rest;
    whole = form.whole;
    sources = form.sources;
    front = sources-front form.sources;
    late = posed-late form.after;
    same_constraints = same ∙ rw zero-add;
    counted = rw same (omega (arith, inside.counted, length-append form.src form.rest, ap length form.whole));
  }

  -- what is at most a for each word of a constraint is in all at most a for each word of the model
  pub bounded : (f : Constraint → ℕ) (a : ℕ) → All (λ c. f c ≤ a * (1 + argument_words c)) (constraints ws) → total f (constraints ws) ≤ a * length ws
  bounded f a b = le_trans (total-le f a (constraints ws) b) (mul-le-mul_left a (omega (arith, split.counted)))
