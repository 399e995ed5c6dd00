-- The walks over the constraints: what is known of the block that is due; the bounds and the rows that are left.
use Rattle.std.proofs.Common.{◌≡◌, refl, ap, sym, ◌∙◌, subst, Bool, true, false, List, ◌∷◌, ◌++◌, ℕ, ◌+◌, ◌*◌, ◌≤◌, ◌<◌, arith, ltb, ℤ, pos, length, length-append, get_or, take, drop, drop_of_length-le, length-take-le, get_or-take, ltb-true, ltb-false}
use lib.ListN.{length-map, get_or-eq_default}
use Rattle.integers.specs.Terms.{Valuation, value}
use Rattle.integers.specs.declared.Bounds.{Bounds}
use Rattle.integers.proofs.Tests.{false-true}
use Rattle.words.specs.Word.{payload, word_at}
use Rattle.words.specs.Variables.{variables}
use Rattle.words.specs.Answer.{Answer, holds, is_holds}
use Rattle.words.specs.Judge.{first_false, first_out_of_bounds}
use Rattle.words.specs.Faults.{said_of}
use Rattle.words.specs.declared.answer.Verdict.{Verdict}
use Rattle.words.specs.declared.answer.Verdict.TheVariants.{Holds, OutOfBounds, False}
use Rattle.words.specs.Small.{Near, Small}
use Rattle.variables.proofs.After.{next, found}
use Rattle.models.specs.Meaning.{meaning}
use Rattle.models.specs.Model.{Constraint, constraints, headed, builtin}
use Rattle.models.proofs.Accepted as Accepted
use Rattle.linearsums.specs.Sum.{Summed}
use Rattle.rowsystems.specs.Row.{rename, satisfied}
use Rattle.rules.specs.Block.{numbered}
use Rattle.rules.specs.Shared.{Encoded, none_yet, choice, encodes, encoded_after}
use Rattle.rules.specs.Translation.{bounds, shared, block_of, each_block, auxiliaries}
use Rattle.rules.specs.Check.{too_wide}
use Rattle.integers.specs.Bounds.{bounds_in}
use Rattle.encodings.specs.Uses.{shared_by, Recorded}
use Rattle.encodings.proofs.Record.{recorded-none, recorded-after, none-many, length-after}
use Rattle.sharing.specs.SharedSolutions.{Passes}
use Rattle.sharing.proofs.Accepts.{Fine, passes-fine, passes-read}
use Rattle.sharing.proofs.Assembly.{auxiliaries_from, AllFormed}
use Rattle.sharing.proofs.Theorem.{well-formed}
use Rattle.checking.specs.declared.read.ReadModel.{ReadModel}
use Rattle.checking.proofs.Kept.{head_at, summed_at}
use Rattle.reasons.specs.Reason.{Reason, none, because, explained, in_block, first_failing}
use Rattle.reasons.proofs.Judged.{explained_from}
use Rattle.reasoning.specs.Walks.{PassedModel, ReadsBack, BlockJudged, Stops, said_of_block, rows_at}
use Rattle.reasoning.specs.declared.Said.{Said}
use Rattle.reasoning.specs.declared.Stopped.{Stopped}
use Rattle.reasoning.proofs.OneBlock as OneBlock
use Rattle.reasoning.proofs.Counted.{fails-here, outside-then, unheld}

-- the constraints cs are left, the next auxiliary is `first`, and d is the record
pub record Due (β : ℕ → Bounds) (s : ℕ → Bool) (cs : List Constraint) (first : ℕ) (d : Encoded) : Type 0 where
  pub room : first ≤ 4096
  pub recorded : Recorded d
  pub many : length d ≡ 256
  pub fine : Fine β s first d cs
  pub formed : AllFormed β s first d cs

module _ {β : ℕ → Bounds} {s : ℕ → Bool} {c : Constraint} {cs : List Constraint} {first : ℕ} {d : Encoded} (l : Due β s (c ∷ cs) first d) where
  pub reads : ReadsBack first (block_of β s d c)
  reads = OneBlock.reads β s first d c l.fine.0 l.fine.1 l.fine.2 l.formed.0

  pub due-after : Due β s cs (first + length (block_of β s d c).auxiliaries) (encoded_after s first d (encodes (choice c)))
  due-after = record {
    room = l.fine.2;
    recorded = recorded-after s first d (encodes (choice c)) (omega (arith, l.room)) l.recorded;
    many = length-after s first d (encodes (choice c)) ∙ l.many;
    fine = l.fine.3;
    formed = l.formed.1;
  }

start : (ws : List ℕ) → Passes ws → Due (bounds ws) (shared ws) (constraints ws) (length (variables ws)) none_yet
unfolding bounds
start ws h = record { room = omega (arith, Accepted.few-variables ws (passes-read ws h)); recorded = recorded-none; many = none-many; fine = passes-fine ws h; formed = well-formed ws h }

module _ {r : ReadModel} {vs : List ℤ} (y : PassedModel r vs) where
  abbrev β : ℕ → Bounds
  β = bounds_in r.domains

  abbrev s : ℕ → Bool
  s = shared_by r.uses

  begun : Due (bounds_in r.domains) (shared_by r.uses) (constraints r.ws.now) r.model.variables none_yet
  begun = rw (y.listed.0.same, y.listed.0.shares, y.listed.0.seen.variables_counted) (start r.ws.now y.passes)

  -- the k-th constraint: its block can be laid and read
  module _ {k first : ℕ} {d : Encoded} (l : Due (bounds_in r.domains) (shared_by r.uses) (drop k (constraints r.ws.now)) first d) (h : k < r.model.constraints) where
    abbrev c : Constraint
    c = headed r.ws.now (get_or r.heads k 0)

    pub here : Due (bounds_in r.domains) (shared_by r.uses) (headed r.ws.now (get_or r.heads k 0) ∷ drop (k + 1) (constraints r.ws.now)) first d
    here = subst (λ cs. Due β s cs first d) (head_at y.listed.0 k h) l

    pub near : first ≤ 4096
    near = l.room

    pub narrow : too_wide (bounds_in r.domains) (shared_by r.uses) (headed r.ws.now (get_or r.heads k 0)) ≡ false
    narrow = here.fine.0

    pub summed : Summed (bounds_in r.domains) (payload (word_at r.ws.now (get_or r.heads k 0))) (drop (get_or r.heads k 0 + 1) r.ws.now) (bounds_in r.sums k)
    summed = summed_at y.listed.0 k h r.sums y.listed.1

    pub reads_back : ReadsBack first (block_of (bounds_in r.domains) (shared_by r.uses) d (headed r.ws.now (get_or r.heads k 0)))
    reads_back = reads here

    pub room_after-block : first + length (block_of (bounds_in r.domains) (shared_by r.uses) d (headed r.ws.now (get_or r.heads k 0))).auxiliaries ≤ 4096
    room_after-block = here.fine.2

-- ---- the values of a block are there, where those of all that are left are

pub record There (β : ℕ → Bounds) (s : ℕ → Bool) (ws : List ℕ) (vs : List ℤ) (k first : ℕ) (d : Encoded) : Type 0 where
  pub count : first + length (auxiliaries_from β s first d (drop k (constraints ws))) ≡ length vs

module _ {β : ℕ → Bounds} {s : ℕ → Bool} {ws : List ℕ} {vs : List ℤ} {k first : ℕ} {d : Encoded} {c : Constraint} (h : There β s ws vs k first d)
    (e : drop k (constraints ws) ≡ c ∷ drop (k + 1) (constraints ws)) where
  abbrev own : List Bounds
  own = (block_of β s d c).auxiliaries

  abbrev later : List Bounds
  later = auxiliaries_from β s (first + length (block_of β s d c).auxiliaries) (encoded_after s first d (encodes (choice c))) (drop (k + 1) (constraints ws))

  own_and_later : auxiliaries_from β s first d (drop k (constraints ws)) ≡ own ++ later
  unfolding each_block
  own_and_later = ap (auxiliaries_from β s first d) e

  pub own-there : first + length (block_of β s d c).auxiliaries ≤ length vs
  own-there = omega (arith, h.count, ap length own_and_later, length-append own later)

  later-there : There β s ws vs (k + 1) (first + length (block_of β s d c).auxiliaries) (encoded_after s first d (encodes (choice c)))
  later-there = record { count = omega (arith, h.count, ap length own_and_later, length-append own later) }

-- ---- the walk: what is left of the bounds, or of the rows, says what all of them say

pub record Walking (bounds : Bool) (β : ℕ → Bounds) (s : ℕ → Bool) (ws : List ℕ) (vs : List ℤ) (k first rows : ℕ) (d : Encoded) : Type 0 where
  pub walk : Due β s (drop k (constraints ws)) first d
  pub there : There β s ws vs k first d
  pub small : rows ≤ 1000000 * k
  pub outside : bounds ≡ true → first_out_of_bounds (value vs) first (auxiliaries_from β s first d (drop k (constraints ws))) holds ≡ first_out_of_bounds (value vs) (length (variables ws)) (auxiliaries ws) holds
  pub failing : bounds ≡ false → (σ : Valuation) → first_failing σ (value vs) rows k (explained_from β s first d (drop k (constraints ws))) ≡ first_failing σ (value vs) 0 0 (explained ws)

module _ {r : ReadModel} {vs : List ℤ} (y : PassedModel r vs) where
  all-auxiliaries : auxiliaries_from (bounds_in r.domains) (shared_by r.uses) r.model.variables none_yet (constraints r.ws.now) ≡ auxiliaries r.ws.now
  unfolding auxiliaries
  all-auxiliaries = rw (y.listed.0.same, y.listed.0.shares, y.listed.0.seen.variables_counted)

  all-explained : explained_from (bounds_in r.domains) (shared_by r.uses) r.model.variables none_yet (constraints r.ws.now) ≡ explained r.ws.now
  unfolding explained
  all-explained = rw (y.listed.0.same, y.listed.0.shares, y.listed.0.seen.variables_counted)

  pub walking : {bounds : Bool} → Walking bounds (bounds_in r.domains) (shared_by r.uses) r.ws.now vs 0 r.model.variables 0 none_yet
  walking = record {
    walk = begun y;
    there = record { count = omega (arith, ap length all-auxiliaries, y.listed.0.seen.variables_counted, y.counted) };
    small = omega arith;
    outside = λ t. rw (all-auxiliaries, y.listed.0.seen.variables_counted);
    failing = λ f σ. ap (first_failing σ (value vs) 0 0) all-explained;
  }

module _ {bounds : Bool} {β : ℕ → Bounds} {s : ℕ → Bool} {ws : List ℕ} {vs : List ℤ} {k first rows : ℕ} {d : Encoded} (b : Walking bounds β s ws vs k first rows d) where
  -- no constraint is left
  module _ (h : length (constraints ws) ≤ k) where
    all-within : bounds ≡ true → holds ≡ first_out_of_bounds (value vs) (length (variables ws)) (auxiliaries ws) holds
    unfolding first_out_of_bounds each_block
    all-within t = rw (drop_of_length-le (constraints ws) h) at (b.outside t)

    all_true : bounds ≡ false → (σ : Valuation) → none ≡ first_failing σ (value vs) 0 0 (explained ws)
    unfolding first_failing each_block
    all_true f σ = rw (drop_of_length-le (constraints ws) h) at (b.failing f σ)

    pub walk-ended : {r : Stopped} → r.said ≡ Holds → Stops bounds ws vs r
    unfolding is_holds
    walk-ended v = record {
      outside = λ t. rw v (all-within t);
      none_fails = λ f σ t. all_true f σ;
      one_fails = λ f σ c n e. false-true (sym (rw v at n));
      within = λ n. false-true (sym (rw v at n));
    }

  module _ {c : Constraint} (e : drop k (constraints ws) ≡ c ∷ drop (k + 1) (constraints ws)) where
    abbrev A : List Bounds
    A = (block_of β s d c).auxiliaries

    abbrev As : List Bounds
    As = auxiliaries_from β s (first + length (block_of β s d c).auxiliaries) (encoded_after s first d (encodes (choice c))) (drop (k + 1) (constraints ws))

    joined : bounds ≡ true → first_out_of_bounds (value vs) first A (first_out_of_bounds (value vs) (first + length A) As holds) ≡ first_out_of_bounds (value vs) (length (variables ws)) (auxiliaries ws) holds
    joined t = sym (outside-then (value vs) first A As holds) ∙ ap (λ (l : List Bounds). first_out_of_bounds (value vs) first l holds) (sym (own_and_later b.there e)) ∙ b.outside t

    abbrev R : Answer
    R = first_false (satisfied (value vs)) rows (rows_at first (block_of β s d c))

    abbrev after : Valuation → Reason
    after σ = first_failing σ (value vs) (rows + length (rows_at first (block_of β s d c))) (k + 1)
        (explained_from β s (first + length (block_of β s d c).auxiliaries) (encoded_after s first d (encodes (choice c))) (drop (k + 1) (constraints ws)))

    joined-rows : bounds ≡ false → (σ : Valuation) → in_block R k (meaning σ (builtin c)) (after σ) ≡ first_failing σ (value vs) 0 0 (explained ws)
    unfolding first_failing each_block
    joined-rows f σ = rw e at (b.failing f σ)

    module _ {r : Said} (o : BlockJudged bounds vs first rows (block_of β s d c) r) where
      said-bounds : bounds ≡ true → said_of r.said ≡ first_out_of_bounds (value vs) first A holds
      said-bounds t = o.says ∙ ap (λ x. said_of_block x vs first rows (block_of β s d c)) t

      said-rows : bounds ≡ false → said_of r.said ≡ R
      said-rows f = o.says ∙ ap (λ x. said_of_block x vs first rows (block_of β s d c)) f

      stop-rows : bounds ≡ false → (σ : Valuation) → is_holds (said_of r.said) ≡ false → in_block (said_of r.said) k (meaning σ (builtin c)) none ≡ first_failing σ (value vs) 0 0 (explained ws)
      stop-rows f σ n = rw (said-rows f) (fails-here (satisfied (value vs)) rows (rows_at first (block_of β s d c)) k _ none (after σ) (rw (said-rows f) at n) ∙ joined-rows f σ)

      pub walk-stopped : k < length (constraints ws) → (r.said ≡ Holds → ⊥) → Stops bounds ws vs (record { said = r.said; constraint = k })
      unfolding is_holds
      walk-stopped l u = let n = unheld r.said u in record {
        outside = λ t. said-bounds t ∙ found (value vs) (first_out_of_bounds (value vs) (first + length A) As holds) first A (rw (said-bounds t) at n) ∙ joined t;
        none_fails = λ f σ h. false-true (sym n ∙ h);
        one_fails = λ f σ c' m e'. let q : c' ≡ c = cc in rw q (stop-rows f σ n);
        within = λ m. l;
      }

      pub walk-on : {d' : Encoded} → r.said ≡ Holds → d' ≡ encoded_after s first d (encodes (choice c)) → Walking bounds β s ws vs (k + 1) (first + r.auxiliaries) (rows + r.rows) d'
      walk-on h q =
          let t : said_of r.said ≡ holds = rw h in
          let m : length (rows_at first (block_of β s d c)) ≡ length (block_of β s d c).rows = length-map (block_of β s d c).rows (rename (numbered first)) in
          let z : rows + r.rows ≤ 1000000 * (k + 1) = omega (arith, b.small, o.few) in
          let p : r.rows ≡ length (rows_at first (block_of β s d c)) = o.rows ∙ sym m in
          record {
            walk = rw (o.auxiliaries, q) (due-after (subst (λ cs. Due β s cs first d) e b.walk));
            there = rw (o.auxiliaries, q) (later-there b.there e);
            small = z;
            outside = λ x. rw (o.auxiliaries, q) (next (value vs) (first_out_of_bounds (value vs) (first + length A) As holds) first A (sym (said-bounds x) ∙ t) ∙ joined x);
            failing = λ f σ. let n : R ≡ holds = sym (said-rows f) ∙ t in rw (o.auxiliaries, p, q) (rw n at (joined-rows f σ));
          }

-- ---- the source values

module _ {r : ReadModel} {vs : List ℤ} (y : PassedModel r vs) where
  enough-values : r.model.variables ≤ length vs
  enough-values = omega (arith, y.listed.0.seen.variables_counted, y.counted)

  pub sources-length : r.model.variables ≡ length (take r.model.variables vs)
  sources-length = sym (length-take-le r.model.variables vs enough-values)

  pub sources-small : Small vs → Small (take r.model.variables vs)
  sources-small h x = go (ltb x r.model.variables) refl
    where
      n : ℕ
      n = r.model.variables

      go : (b : Bool) → ltb x n ≡ b → Near (get_or (take n vs) x (pos 0))
      go true t = rw (get_or-take n vs x (pos 0) (ltb-true x n t)) (h x)
      go false t = rw (get_or-eq_default (take n vs) (pos 0) {n = x} (omega (arith, sources-length, ltb-false x n t))) (omega arith)

-- ---- the reason, where a walk over the rows stops

module _ {ws : List ℕ} {vs : List ℤ} {r : Stopped} (o : Stops false ws vs r) (σ : Valuation) (c : Constraint)
    (e : is_holds (said_of r.said) ≡ false → drop r.constraint (constraints ws) ≡ c ∷ drop (r.constraint + 1) (constraints ws)) where
  pub failing-row : (i : ℕ) → r.said ≡ False i → because i r.constraint (meaning σ (builtin c)) ≡ first_failing σ (value vs) 0 0 (explained ws)
  unfolding is_holds
  failing-row i f = let n : is_holds (said_of r.said) ≡ false = rw f in rw f at (o.one_fails refl σ c n (e n))

  pub no-row : ((i : ℕ) → r.said ≡ False i → ⊥) → none ≡ first_failing σ (value vs) 0 0 (explained ws)
  unfolding is_holds
  no-row f = go r.said refl
    where
      go : (v : Verdict) → r.said ≡ v → none ≡ first_failing σ (value vs) 0 0 (explained ws)
      go Holds q = o.none_fails refl σ (rw q)
      go (OutOfBounds i) q = let n : is_holds (said_of r.said) ≡ false = rw q in rw q at (o.one_fails refl σ c n (e n))
      go (False i) q = absurd (f i q)
