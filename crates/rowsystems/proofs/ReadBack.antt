-- What is written is what is read: judge-rows' reader accepts a row system's words, and finds in them the bounds and the rows that were written.
-- For the proof of demand 3, whose words are `Sources`, then blocks, then the end word: `end`, then `block` for each block from the last on, then `read_back`.
use Rattle.std.proofs.Common.{◌≡◌, refl, ◌∙◌, true, false, ◌||◌, List, [], ◌∷◌, ◌++◌, append_assoc, map, ℕ, suc, ◌+◌, ◌-◌, ◌*◌, ◌≤◌, ◌<◌, add-zero, suc-add, zero-add, arith, eqb, ℤ, length, le-leb, le-ltb, lt-ltb}
use mathlib.Core.List.{flat_map}
use lib.Signed.{lt_z}
use lib.ListN.{length-map}
use borrow.Author.Tests.{lt-leb, not-true}
use Rattle.integers.specs.Lists.{list_of}
use Rattle.integers.specs.Terms.{Term, ◌·◌}
use Rattle.integers.specs.declared.Bounds.{Bounds}
use Rattle.integers.proofs.Linear.{◌⊑◌, arith_z}
use Rattle.integers.proofs.Tests.{All, says-not, says-lt}
use Rattle.integers.proofs.Lists.{all_append}
use Rattle.words.specs.Word.{kind, payload, signed, in_range, too_low, word, number_word, word_at}
use Rattle.words.specs.Kind as Kind
use Rattle.words.specs.Check.{fault_number_in}
use Rattle.words.specs.Limit as Limit
use Rattle.words.specs.Variables.{starts_pair, variables}
use Rattle.words.specs.Refusal.{accepted, first_fault}
use Rattle.words.proofs.Sources.{Sources, none, integer, boolean}
use Rattle.words.proofs.ReadBack.{kind-word, kind-number, payload-word, signed-number}
use Rattle.rowsystems.specs.declared.Due.{Due}
use Rattle.rowsystems.specs.declared.Due.TheVariants.{Source, Item, Terms}
use Rattle.rowsystems.specs.Row.{Row, sum≤0, sum=0, product, rename_terms, rename}
use Rattle.rowsystems.specs.RowWords.{bound_words, term_words, sum_words, row_words, bound_numbers, row_numbers}
use Rattle.rowsystems.specs.Reading.{State, fault, fault_due, fault_lower, fault_item, fault_source, fault_upper, fault_variable, fault_result, not_above, after, after_due, after_item, started, ended, fault_end, begin, read_rows}
use Rattle.rowsystems.specs.RowSystem.{rows, term_count, variable_at, number_at, terms_in, constant_in}

-- ---- Reading from a state on

abbrev pub state : Due → ℕ → State
state d n = record { due = d; variables = n }

-- from state s on, wherever they stand, the words ws have no fault and the end word is their last; they hold the bounds Bs and the rows Rs
pub record Reads (s : State) (ws : List ℕ) (Bs : List Bounds) (Rs : List (Row ℕ)) : Type 0 where
  pub accepts : (p : ℕ) → first_fault fault after ended s p ws ≡ accepted
  pub the_bounds : variables ws ≡ Bs
  pub the_rows : rows ws ≡ Rs

-- the words ws are read so after n variables where an item may stand: after the sources, and after another item
abbrev pub Items : ℕ → List ℕ → List Bounds → List (Row ℕ) → Type 0
Items n ws Bs Rs = Reads (state Source n) ws Bs Rs × Reads (state Item n) ws Bs Rs

-- every number is of the range, as check's 13 leaves it
abbrev pub Ranged : List ℤ → Type 0
Ranged zs = All (λ z. in_range z ≡ true) zs

not-below : {a b : ℤ} → a ⊑ b → lt_z b a ≡ false
not-below {a} {b} h = not-true (lt_z b a) ((says-not (says-lt b a)).1 (λ k. omega arith_z))

one_more : (n m : ℕ) → n + suc m ≡ n + 1 + m
one_more n m = omega arith

-- ---- The end

-- a word that starts no source is read alike after the sources and after an item; k is its kind
both : {n w : ℕ} {ws : List ℕ} {Bs : List Bounds} {Rs : List (Row ℕ)} (k : ℕ) → kind w ≡ k → eqb k Kind.lower ≡ false → eqb k Kind.boolean ≡ false →
    Reads (state Item n) (w ∷ ws) Bs Rs → Items n (w ∷ ws) Bs Rs
unfolding first_fault fault fault_due fault_source after after_due
both k e l b r = (record { accepts = λ p. rw (e, l, b) (r.accepts p); the_bounds = r.the_bounds; the_rows = r.the_rows }, r)

pub end : (n : ℕ) → Items n (word Kind.rows_end 0 ∷ []) [] []
unfolding first_fault fault fault_due fault_item after after_due after_item ended fault_end variables starts_pair rows
end n =
    let k = kind-word Kind.rows_end 0 in
    both Kind.rows_end k refl refl (record { accepts = λ p. rw (k, payload-word Kind.rows_end 0 (omega arith)) refl; the_bounds = rw k refl; the_rows = rw k refl })

-- ---- Auxiliaries

auxiliary : {n : ℕ} {ws : List ℕ} {Bs : List Bounds} {Rs : List (Row ℕ)} (B : Bounds) → n < Limit.in_all → Ranged (bound_numbers B) → B.lower ⊑ B.upper →
    Items (n + 1) ws Bs Rs → Items n (bound_words B ++ ws) (B ∷ Bs) Rs
unfolding first_fault fault fault_due fault_item fault_lower fault_upper too_low after after_due after_item started variables starts_pair rows bound_words bound_numbers word_at
auxiliary {n} B room h o r =
    let l = signed-number Kind.auxiliary_lower B.lower h.0 in
    let u = signed-number Kind.auxiliary_upper B.upper h.1.0 in
    both Kind.auxiliary_lower (kind-number Kind.auxiliary_lower B.lower) refl refl (record {
      accepts = λ p. simp (kind-number, l, u, h.0, h.1.0, add-zero, lt-leb Limit.in_all n room, not-below o) (r.1.accepts (p + 1 + 1));
      the_bounds = simp (kind-number, l, u, r.1.the_bounds);
      the_rows = simp kind-number r.1.the_rows;
    })

auxiliaries : {n : ℕ} {ws : List ℕ} {Bs : List Bounds} {Rs : List (Row ℕ)} (As : List Bounds) → n + length As ≤ Limit.in_all →
    Ranged (flat_map bound_numbers As) → All (λ B. B.lower ⊑ B.upper) As →
    Items (n + length As) ws Bs Rs → Items n (flat_map bound_words As ++ ws) (As ++ Bs) Rs
unfolding flat_map
auxiliaries {n} [] room h o r = rw add-zero at r
auxiliaries {n} (A ∷ As) room h o r =
    let k = (all_append (λ z. in_range z ≡ true) (bound_numbers A) (flat_map bound_numbers As)).0 h in
    rw append_assoc (auxiliary A (omega arith) k.0 o.0 (auxiliaries {n = n + 1} As (omega arith) k.1 o.1 (rw (one_more n (length As)) at r)))

-- ---- Rows, over variables of any type that f numbers

-- a row that may stand after n variables: not too many terms, every variable declared, a product's result above its factors
abbrev pub Declared : {X : Type 0} → (X → ℕ) → ℕ → Row X → Type 0
Declared f n (sum≤0 ts c) = (length ts ≤ Limit.terms) × All (λ t. f t.variable < n) ts
Declared f n (sum=0 ts c) = (length ts ≤ Limit.terms) × All (λ t. f t.variable < n) ts
Declared f n (product r g h) = (f r < n) × (f g < f r) × (f h < f r)

double : (i : ℕ) → 2 * suc i ≡ suc (suc (2 * i))
double i = omega arith

module _ {X : Type 0} (f : X → ℕ) {n : ℕ} (room : n ≤ Limit.in_all) where
  variable-word : (v : ℕ) → v < n → payload (word Kind.variable v) ≡ v
  variable-word v d = payload-word Kind.variable v (omega arith)

  length-rename : (ts : List (Term X)) → length (rename_terms f ts) ≡ length ts
  unfolding rename_terms
  length-rename ts = length-map ts (λ t. t.coefficient · f t.variable)

  -- the reader passes over a row's terms
  terms-accepted : {ws : List ℕ} {Bs : List Bounds} {Rs : List (Row ℕ)} (ts : List (Term X)) → Ranged (map (λ t. t.coefficient) ts) → All (λ t. f t.variable < n) ts →
      Reads (state (Terms 0) n) ws Bs Rs → Reads (state (Terms (length ts)) n) (flat_map term_words (rename_terms f ts) ++ ws) Bs Rs
  unfolding first_fault fault fault_due fault_variable fault_number_in too_low after after_due started variables starts_pair rows term_words flat_map rename_terms
  terms-accepted [] h d r = r
  terms-accepted (t ∷ ts) h d r =
      let k = terms-accepted ts h.1 d.1 r in
      let c = signed-number Kind.number t.coefficient h.0 in
      let e : f t.variable < n = d.0 in
      let m : suc (length ts) - 1 ≡ length ts = omega arith in
      record {
        accepts = λ p. simp (kind-word, kind-number, variable-word, c, h.0, add-zero, m, lt-ltb 0 (suc (length ts)) (omega arith), lt-leb) (k.accepts (p + 1 + 1));
        the_bounds = simp (kind-word, kind-number) k.the_bounds;
        the_rows = simp (kind-word, kind-number) k.the_rows;
      }

  -- it finds the terms, and the word behind them
  terms_in-words : (ts : List (Term X)) (c : ℤ) (ws : List ℕ) → Ranged (map (λ t. t.coefficient) ts ++ (c ∷ [])) → All (λ t. f t.variable < n) ts →
      terms_in (flat_map term_words (rename_terms f ts) ++ ws) (length ts) ≡ rename_terms f ts
  unfolding terms_in list_of number_at variable_at word_at flat_map term_words rename_terms
  terms_in-words [] c ws h d = refl
  terms_in-words (t ∷ ts) c ws h d =
      let k = terms_in-words ts c ws h.1 d.1 in
      let e : f t.variable < n = d.0 in
      simp (double, suc-add, variable-word, signed-number Kind.number t.coefficient h.0, k)

  constant_in-words : (ts : List (Term X)) (ws : List ℕ) → constant_in (flat_map term_words (rename_terms f ts) ++ ws) (length ts) ≡ signed (word_at ws 0)
  unfolding constant_in number_at word_at flat_map term_words rename_terms
  constant_in-words [] ws = refl
  constant_in-words (t ∷ ts) ws = simp double (constant_in-words ts ws)

  module _ {ws : List ℕ} {Bs : List Bounds} {Rs : List (Row ℕ)} (r : Items n ws Bs Rs) where
    -- k is A or B, which all tests but that of `rows` take alike
    rows-sum_row : (k : ℕ) (make : List (Term ℕ) → ℤ → Row ℕ) →
        eqb k Kind.lower ≡ false → eqb k Kind.boolean ≡ false → eqb k Kind.auxiliary_lower ≡ false →
        eqb k Kind.product ≡ false → eqb k Kind.rows_end ≡ false → (eqb k Kind.at_most || eqb k Kind.equal) ≡ true →
        ((w : ℕ) (vs : List ℕ) → kind w ≡ k → rows (w ∷ vs) ≡ make (terms_in vs (term_count w)) (constant_in vs (term_count w)) ∷ rows vs) →
        (ts : List (Term X)) (c : ℤ) → length ts ≤ Limit.terms → Ranged (map (λ t. t.coefficient) ts ++ (c ∷ [])) → All (λ t. f t.variable < n) ts →
        Items n (sum_words k (rename_terms f ts) c ++ ws) Bs (make (rename_terms f ts) c ∷ Rs)
    unfolding sum_words first_fault fault fault_due fault_item fault_number_in too_low after after_due after_item started variables starts_pair rows term_count word_at
    rows-sum_row k make k1 k3 k8 kC kF kAB made ts c s h d =
        let last = number_word Kind.number c ∷ ws in
        let w = kind-word k (length (rename_terms f ts)) in
        let l = length-rename ts in
        let p : payload (word k (length (rename_terms f ts))) ≡ length ts = payload-word k _ (omega arith) ∙ l in
        let ranged = (all_append (λ z. in_range z ≡ true) (map (λ t. t.coefficient) ts) (c ∷ [])).0 h in
        let constant = signed-number Kind.number c ranged.1.0 in
        let body : Reads (state (Terms (length ts)) n) (flat_map term_words (rename_terms f ts) ++ last) Bs Rs = terms-accepted ts ranged.0 d (record {
          accepts = λ q. simp (kind-number, constant, ranged.1.0, add-zero) (r.1.accepts (q + 1));
          the_bounds = simp kind-number r.1.the_bounds;
          the_rows = simp kind-number r.1.the_rows;
        }) in
        rw append_assoc (both k w k1 k3 (record {
          accepts = λ q. simp (w, p, k1, k3, k8, kC, kF, kAB, add-zero, le-ltb Limit.terms (length ts) s) (body.accepts (q + 1));
          the_bounds = simp (w, k1, k3, k8) body.the_bounds;
          the_rows = made _ _ w ∙ simp (p, le-leb (length ts) Limit.terms s, terms_in-words ts c last h d, constant_in-words ts last, constant, body.the_rows);
        }))

    row : (q : Row X) → Ranged (row_numbers q) → Declared f n q → Items n (row_words (rename f q) ++ ws) Bs (rename f q ∷ Rs)
    unfolding row_words rename row_numbers rows first_fault fault fault_due fault_item fault_result fault_variable not_above after after_due after_item started variables starts_pair variable_at word_at
    row (sum≤0 ts c) h d = rows-sum_row Kind.at_most sum≤0 refl refl refl refl refl refl (λ w vs e. rw e refl) ts c d.0 h d.1
    row (sum=0 ts c) h d = rows-sum_row Kind.equal sum=0 refl refl refl refl refl refl (λ w vs e. rw e refl) ts c d.0 h d.1
    row (product x y z) h (xn, yx, zx) =
        let yn : f y < n = omega arith in
        let zn : f z < n = omega arith in
        let payload-0 = payload-word Kind.product 0 (omega arith) in
        both Kind.product (kind-word Kind.product 0) refl refl (record {
          accepts = λ p. simp (kind-word, variable-word, payload-0, lt-leb, add-zero) (r.1.accepts (p + 1 + 1 + 1 + 1));
          the_bounds = simp kind-word r.1.the_bounds;
          the_rows = simp (kind-word, variable-word, r.1.the_rows);
        })

  rows-read : {ws : List ℕ} {Bs : List Bounds} {Rs : List (Row ℕ)} (qs : List (Row X)) → Ranged (flat_map row_numbers qs) → All (Declared f n) qs →
      Items n ws Bs Rs → Items n (flat_map (λ q. row_words (rename f q)) qs ++ ws) Bs (map (rename f) qs ++ Rs)
  unfolding flat_map
  rows-read [] h d r = r
  rows-read (q ∷ qs) h d r =
      let k = (all_append (λ z. in_range z ≡ true) (row_numbers q) (flat_map row_numbers qs)).0 h in
      rw append_assoc (row (rows-read qs k.1 d.1 r) q k.0 d.0)

-- ---- A block, the sources, the whole

-- auxiliaries, then rows, after n variables
pub block : {X : Type 0} {n : ℕ} {ws : List ℕ} {Bs : List Bounds} {Rs : List (Row ℕ)} (f : X → ℕ) (As : List Bounds) (qs : List (Row X)) →
    n + length As ≤ Limit.in_all → Ranged (flat_map bound_numbers As ++ flat_map row_numbers qs) →
    All (λ B. B.lower ⊑ B.upper) As → All (Declared f (n + length As)) qs →
    Items (n + length As) ws Bs Rs →
    Items n ((flat_map bound_words As ++ flat_map (λ q. row_words (rename f q)) qs) ++ ws) (As ++ Bs) (map (rename f) qs ++ Rs)
block f As qs room h o d r =
    let k = (all_append (λ z. in_range z ≡ true) (flat_map bound_numbers As) (flat_map row_numbers qs)).0 h in
    rw append_assoc (auxiliaries As room k.0 o (rows-read f room qs k.1 d r))

sources : {n : ℕ} {src ws : List ℕ} {Bs Cs : List Bounds} {Rs : List (Row ℕ)} → Sources src Bs → n + length Bs ≤ Limit.in_all →
    Items (n + length Bs) ws Cs Rs → Reads (state Source n) (src ++ ws) (Bs ++ Cs) Rs
unfolding first_fault fault fault_due fault_source fault_lower fault_upper too_low after after_due started variables starts_pair rows word_at
sources {n} none room r = rw add-zero at r.0
sources {n} (integer {Bs = Bs} l u o ss) room r =
    let k = sources {n = n + 1} ss (omega arith) (rw (one_more n (length Bs)) at r) in
    record {
      accepts = λ p. simp (l, u, o.lower_in, o.upper_in, add-zero, lt-leb Limit.in_all n (omega arith), not-below o.rising) (k.accepts (p + 1 + 1));
      the_bounds = simp (l, u, k.the_bounds);
      the_rows = simp (l, u, k.the_rows);
    }
sources {n} (boolean {Bs = Bs} w z ss) room r =
    let k = sources {n = n + 1} ss (omega arith) (rw (one_more n (length Bs)) at r) in
    record {
      accepts = λ p. simp (w, z, lt-leb Limit.in_all n (omega arith)) (k.accepts (p + 1));
      the_bounds = simp (w, k.the_bounds);
      the_rows = simp (w, k.the_rows);
    }

-- the words ws are accepted; they hold the bounds Bs, auxiliaries' among them, and the rows Rs
pub record System (ws : List ℕ) (Bs : List Bounds) (Rs : List (Row ℕ)) : Type 0 where
  pub read : read_rows ws ≡ accepted
  pub the_bounds : variables ws ≡ Bs
  pub the_rows : rows ws ≡ Rs

pub read_back : {src ws : List ℕ} {Bs Cs : List Bounds} {Rs : List (Row ℕ)} → Sources src Bs → length Bs ≤ Limit.in_all →
    Items (length Bs) ws Cs Rs → length (src ++ ws) ≤ Limit.row_words → System (src ++ ws) (Bs ++ Cs) Rs
unfolding read_rows
read_back {src} {ws} {Bs} {Cs} {Rs} ss room r short =
    let k : Reads begin (src ++ ws) (Bs ++ Cs) Rs = sources ss (simp zero-add room) (rw (zero-add (length Bs)) r) in
    record { read = simp (le-ltb Limit.row_words (length (src ++ ws)) short) (k.accepts 0); the_bounds = k.the_bounds; the_rows = k.the_rows }
