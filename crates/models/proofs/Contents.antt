-- The variables and the constraints of words of the form that the reader accepts, word by word: for Accepted.
use Rattle.std.proofs.Common.{◌≡◌, refl, ap, sym, ◌∙◌, List, [], ◌∷◌, ◌++◌, append-nil, append_assoc, ℕ, zero, suc, ◌+◌, ◌≤◌, ◌<◌, arith, add-zero, add_assoc, length, get_or, drop, length-drop, length-append, ne_eqb}
use lib.Seq.{append_snoc}
use Rattle.integers.specs.Bounds.{◌to◌, bit}
use Rattle.integers.specs.declared.Bounds.{Bounds}
use Rattle.integers.proofs.Tests.{All}
use Rattle.words.specs.Word.{kind, payload, signed, word_at}
use Rattle.words.specs.Variables.{starts_pair, variables}
use Rattle.words.proofs.Sources.{Sources, none, integer, boolean}
use Rattle.models.specs.Table as Table
use Rattle.models.specs.Shape as Shape
use Rattle.models.specs.Shape.{shapes}
use Rattle.models.specs.Model.{Constraint, constraints_from}
use Rattle.models.proofs.Sound.{Plain}
use Rattle.models.proofs.Fits.{FitAll}
use Rattle.models.proofs.Form as Form
use Rattle.models.proofs.Form.{taken, Posed, end, constraint, Model, posed}

-- words that start neither a variable nor a constraint
record Skipped (p q : ℕ) (ws vs : List ℕ) : Type 0 where
  same_variables : variables ws ≡ variables vs
  same_constraints : constraints_from p ws ≡ constraints_from q vs

skip-one : (p w : ℕ) (ws : List ℕ) → Plain w → Skipped p (p + 1) (w ∷ ws) ws
unfolding variables starts_pair constraints_from
skip-one p w ws h = record {
  same_variables = rw (ne_eqb (kind w) 1 (λ e. omega (arith, h.low)), ne_eqb (kind w) 8 (λ e. omega (arith, h.high)), ne_eqb (kind w) 3 (λ e. omega (arith, h.low)));
  same_constraints = rw (ne_eqb (kind w) 4 (λ e. omega (arith, h.low)));
}

skip : (n p : ℕ) (ws : List ℕ) → n ≤ length ws → ((j : ℕ) → j < n → Plain (word_at ws j)) → Skipped p (p + n) ws (drop n ws)
unfolding word_at
skip zero p ws l h = rw (add-zero p) (record { same_variables = refl; same_constraints = refl })
skip (suc n) p [] l h = absurd (omega arith)
skip (suc n) p (w ∷ ws) l h =
    let a = skip-one p w ws (h 0 (omega arith)) in
    let b = skip n (p + 1) ws (omega arith) (λ j m. h (suc j) (omega arith)) in
    let e : p + 1 + n ≡ p + suc n = omega arith in
    record { same_variables = a.same_variables ∙ b.same_variables; same_constraints = rw e at (a.same_constraints ∙ b.same_constraints) }

-- ---- the first of the words

abbrev pub posed_at : ℕ → ℕ → List ℕ → Constraint
posed_at p w ws = record { place = p; code = payload w; arguments = ws }

start-constraint : (p w : ℕ) (ws : List ℕ) → kind w ≡ 4 → (constraints_from p (w ∷ ws) ≡ posed_at p w ws ∷ constraints_from (p + 1) ws) × (variables (w ∷ ws) ≡ variables ws)
unfolding constraints_from variables starts_pair
start-constraint p w ws k = (rw k, rw k)

start-integer : (p l u : ℕ) (ws : List ℕ) → kind l ≡ 1 → kind u ≡ 2 → (constraints_from p (l ∷ u ∷ ws) ≡ constraints_from (p + 2) ws) × (variables (l ∷ u ∷ ws) ≡ (signed l to signed u) ∷ variables ws)
unfolding constraints_from variables starts_pair word_at
start-integer p l u ws k m = let e : p + 1 + 1 ≡ p + 2 = omega arith in (rw (k, m, e), rw (k, m))

start-boolean : (p w : ℕ) (ws : List ℕ) → kind w ≡ 3 → (constraints_from p (w ∷ ws) ≡ constraints_from (p + 1) ws) × (variables (w ∷ ws) ≡ bit ∷ variables ws)
unfolding constraints_from variables starts_pair
start-boolean p w ws k = (rw k, rw k)

-- ---- constraints and the end

-- how many words the arguments of a constraint take; how many words constraints take, with their head words
abbrev pub argument_words : Constraint → ℕ
argument_words c = taken c.code c.arguments

abbrev pub constraint_words : List Constraint → ℕ
constraint_words [] = 0
constraint_words (c ∷ cs) = 1 + argument_words c + constraint_words cs

-- the words of one constraint
first : (p w : ℕ) (ws : List ℕ) (n : ℕ) → kind w ≡ 4 → n ≤ length ws → ((j : ℕ) → j < n → Plain (word_at ws j)) →
    (constraints_from p (w ∷ ws) ≡ posed_at p w ws ∷ constraints_from (p + 1 + n) (drop n ws)) × (variables (w ∷ ws) ≡ variables (drop n ws))
first p w ws n k l h =
    let s = start-constraint p w ws k in
    let r = skip n (p + 1) ws l h in
    (s.0 ∙ ap (λ cs. posed_at p w ws ∷ cs) r.same_constraints, s.1 ∙ r.same_variables)

last : (p w : ℕ) → kind w ≡ 7 → (constraints_from p (w ∷ []) ≡ []) × (variables (w ∷ []) ≡ [])
unfolding constraints_from variables starts_pair
last p w k = (rw k, rw k)

-- a constraint over variables of the types ts
pub record Fitting (ts : List ℕ) (c : Constraint) : Type 0 where
  pub low : 1 ≤ c.code
  pub high : c.code ≤ Table.last
  pub fits : FitAll c.arguments ts 0 (get_or shapes c.code [])

pub record Contents (ts : List ℕ) (c p : ℕ) (ws : List ℕ) : Type 0 where
  pub few : c + length (constraints_from p ws) ≤ 256
  pub counted : constraint_words (constraints_from p ws) + 1 ≡ length ws
  pub no-variables : variables ws ≡ []
  pub fitting : All (Fitting ts) (constraints_from p ws)

pub contents : {ts : List ℕ} {c : ℕ} {ws : List ℕ} → c ≤ 256 → Posed ts c ws → (p : ℕ) → Contents ts c p ws
contents l (end {c} {w} k) p =
    let h = last p w k in
    record { few = rw h.0 (omega arith); counted = rw h.0 refl; no-variables = h.1; fitting = rw h.0 tt }
contents l (constraint {c} {w} {ws} few k lo hi fits m plain r) p =
    let n = taken (payload w) ws in
    let h = first p w ws n k m plain in
    let i = contents (omega arith) r (p + 1 + n) in
    record {
      few = rw h.0 (omega (arith, i.few));
      counted = rw h.0 (omega (arith, i.counted, length-drop n ws));
      no-variables = h.1 ∙ i.no-variables;
      fitting = rw h.0 (record { low = lo; high = hi; fits = fits }, i.fitting);
    }

-- ---- variables

-- bounds of variables of the types ts
abbrev pub Matches : List ℕ → List Bounds → Type 0
Matches [] [] = Unit {0}
Matches [] (B ∷ Bs) = ⊥
Matches (t ∷ ts) [] = ⊥
Matches (t ∷ ts) (B ∷ Bs) = (t ≡ Shape.boolean → B ≡ bit) × Matches ts Bs

-- after variables of the types ts, the words counted from p
pub record Parts (ts : List ℕ) (p : ℕ) (ws : List ℕ) : Type 0 where
  pub src : List ℕ
  pub rest : List ℕ
  pub types : List ℕ
  pub whole : ws ≡ src ++ rest
  pub sources : Sources src (variables ws)
  pub matches : Matches types (variables ws)
  pub few : length ts + length types ≤ 256
  pub after : Posed (ts ++ types) 0 rest
  pub same_constraints : constraints_from p ws ≡ constraints_from (p + length src) rest

-- one more variable in front: its words, its type t and its bounds B
module _ (front : List ℕ) (t : ℕ) (B : Bounds)
    (start : (p : ℕ) (ws : List ℕ) → (constraints_from p (front ++ ws) ≡ constraints_from (p + length front) ws) × (variables (front ++ ws) ≡ B ∷ variables ws)) where
  in_front : {ts ws : List ℕ} {p : ℕ} → ((vs : List ℕ) (Bs : List Bounds) → Sources vs Bs → Sources (front ++ vs) (B ∷ Bs)) → (t ≡ Shape.boolean → B ≡ bit) → Parts (ts ++ (t ∷ [])) (p + length front) ws → Parts ts p (front ++ ws)
  in_front {ts} {ws} {p} source b i = record {
    src = front ++ i.src;
    rest = i.rest;
    types = t ∷ i.types;
    whole = ap (λ vs. front ++ vs) i.whole ∙ sym (append_assoc front i.src i.rest);
    sources = rw (start p ws).1 (source i.src (variables ws) i.sources);
    matches = rw (start p ws).1 (b, i.matches);
    few = omega (arith, i.few, length-append ts (t ∷ []));
    after = rw append_snoc at i.after;
    same_constraints = (start p ws).0 ∙ i.same_constraints ∙ rw (length-append, add_assoc);
  }

pub parts : {ts ws : List ℕ} → length ts ≤ 256 → Model ts ws → (p : ℕ) → Parts ts p ws
parts l (Form.integer {ts} {l = x} {u} {ws} few k m o r) p =
    in_front (x ∷ u ∷ []) Shape.integer (signed x to signed u) (λ q vs. start-integer q x u vs k m) (λ vs Bs. integer k m o) (λ e. absurd (omega arith))
    (parts (omega (arith, length-append ts (Shape.integer ∷ []))) r (p + 2))
parts l (Form.boolean {ts} {w} {ws} few k z r) p =
    in_front (w ∷ []) Shape.boolean bit (λ q vs. start-boolean q w vs k) (λ vs Bs. boolean k z) (λ e. refl)
    (parts (omega (arith, length-append ts (Shape.boolean ∷ []))) r (p + 1))
parts l (posed {ts} {ws} r) p = record {
  src = [];
  rest = ws;
  types = [];
  whole = refl;
  sources = rw (contents (omega arith) r p).no-variables none;
  matches = rw (contents (omega arith) r p).no-variables tt;
  few = omega arith;
  after = rw append-nil r;
  same_constraints = rw add-zero;
}
