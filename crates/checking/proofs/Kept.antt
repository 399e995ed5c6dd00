-- What `keep_bounds` leaves of the words of a model's variables: the model's bounds. And what the walks over its constraints use.
use Rattle.std.proofs.Common.{◌≡◌, sym, ap, ◌∙◌, subst, List, ◌∷◌, ℕ, ◌+◌, ◌<◌, ◌≤◌, arith, length, get_or, take, drop, drop-cons, Result, Ok, Err}
use Rattle.std.specs.Prelude.{IfOk}
use Rattle.std.proofs.Math.Seq.{take-length}
use lib.ListN.{length-map}
use Rattle.integers.specs.Number.{+0}
use Rattle.integers.specs.Bounds.{◌to◌, bounds_in}
use Rattle.integers.specs.declared.Bounds.{Bounds}
use Rattle.integers.proofs.Lists.{all-at}
use Rattle.words.specs.Overlay.{overlay}
use Rattle.words.specs.Small.{Near}
use Rattle.words.specs.Variables.{variables}
use Rattle.words.specs.Word.{payload, word_at}
use Rattle.models.specs.Table as Table
use Rattle.models.specs.Model.{Constraint, headed, constraints}
use Rattle.models.proofs.Accepted as Accepted
use Rattle.models.proofs.AllCodes.{Unknown, past_last}
use Rattle.modelreading.specs.Seen as Seen
use Rattle.modelreading.specs.Seen.{Seen, model_read}
use Rattle.modelreading.specs.declared.Model.{Model}
use Rattle.modelreading.proofs.Heads as Heads
use Rattle.modelreading.proofs.Heads.{front-inside, front-variables}
use Rattle.rules.specs.Translation.{bounds}
use Rattle.variables.proofs.Small.{bounds-near}
use Rattle.extremes.proofs.Kept.{kept-bounds}
use Rattle.linearsums.specs.Sum.{Summed}
use Rattle.linearsums.proofs.Model.{sum-here}
use Rattle.checking.specs.ModelBounds.{ModelBounds, ModelSums, no_bounds}

-- ---- the bounds

pub kept : {ws hs : List ℕ} {m : Model} {Ds : List Bounds} → Seen ws hs (model_read m) → Ds ≡ overlay no_bounds 0 (variables (take m.sources ws)) → bounds_in Ds ≡ bounds ws
unfolding bounds
kept {ws} s k =
    ap bounds_in k ∙ rw (front-variables s) (kept-bounds ws 256 (Accepted.few-variables ws s.accepts))

-- the places of the constraints alone, which counting the uses is lent
pub first-heads : {ws : List ℕ} (hs : List ℕ) {n : ℕ} → Seen.Heads ws hs n → Seen.Heads ws (take n hs) (length (take n hs))
first-heads {ws} hs {n} h =
    let e : length (take n hs) ≡ n = sym (length-map (take n hs) (headed ws)) ∙ ap length h.places ∙ sym h.counted in
    record { room = rw e h.room; counted = rw e h.counted; places = rw (take-length (take n hs)) h.places }

-- what holds whatever is answered
pub if-ok : {A E P : Type 0} (r : Result A E) → P → IfOk r (λ x. P)
if-ok (Ok x) p = p
if-ok (Err e) p = tt

-- ---- the walks

module _ {ws hs : List ℕ} {r : Model} {Ds : List Bounds} {uses : List ℕ} (m : ModelBounds ws hs r Ds uses) where
  pub few_words : length ws ≤ 8192
  few_words = Accepted.few_words ws m.seen.accepts

  pub few-variables : r.variables ≤ 256
  few-variables = omega (arith, m.seen.variables_counted, Accepted.few-variables ws m.seen.accepts)

  pub few-sources : r.sources ≤ 8192
  few-sources = omega (arith, few_words, front-inside m.seen)

  pub few-constraints : r.constraints ≤ 256
  few-constraints = m.seen.heads.room

  pub none_left : {k : ℕ} → r.constraints ≤ k → length (constraints ws) ≤ k
  none_left h = omega (arith, m.seen.heads.counted)

  pub all-near : (v : ℕ) → Near (bounds_in Ds v).lower × Near (bounds_in Ds v).upper
  unfolding bounds
  all-near v = subst (λ (β : ℕ → Bounds). Near (β v).lower × Near (β v).upper) (sym m.same) (bounds-near ws v)

  -- the k-th constraint: where its head stands, what is left from it on, its L and U
  module _ (k : ℕ) (l : k < r.constraints) where
    pub head-inside : get_or hs k 0 < length ws
    head-inside = Heads.head-inside m.seen.heads k l

    pub head_at : drop k (constraints ws) ≡ headed ws (get_or hs k 0) ∷ drop (k + 1) (constraints ws)
    head_at = Heads.head_at m.seen.heads k l

    -- its code is a builtin's
    pub known-code : Unknown (payload (word_at ws (get_or hs k 0))) → ⊥
    known-code u =
        let cs = constraints ws in
        let d = headed ws 0 in
        let h = drop-cons cs k d (omega (arith, l, m.seen.heads.counted)) in
        let e : get_or cs k d ≡ headed ws (get_or hs k 0) = ap (λ (ds : List Constraint). get_or ds 0 d) (sym h ∙ head_at) in
        let n = all-at (λ c. (1 ≤ c.code) × (c.code ≤ Table.last)) d cs k (omega (arith, l, m.seen.heads.counted)) (Accepted.coded ws m.seen.accepts) in
        omega (arith, n.1, ap (λ (c : Constraint). c.code) e, past_last _ u (omega (arith, n.0, ap (λ (c : Constraint). c.code) e)))

    pub summed_at : (sums : List Bounds) → ModelSums ws hs r Ds sums → Summed (bounds_in Ds) (payload (word_at ws (get_or hs k 0))) (drop (get_or hs k 0 + 1) ws) (bounds_in sums k)
    unfolding bounds_in bounds
    summed_at sums held = rw (held k l) (sum-here ws hs (bounds_in Ds) (+0 to +0) all-near r.constraints k l few-constraints)
