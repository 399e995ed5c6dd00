-- Check's walk over the constraints: what those that are left give is what all give; and that this is check's answer.
use Rattle.std.proofs.Common.{◌≡◌, refl, ap, sym, ◌∙◌, Bool, List, [], ◌∷◌, ◌++◌, ℕ, ◌+◌, ◌*◌, ◌≤◌, arith, Ok, Err, length, drop, length-append, drop_of_length-le}
use Rattle.integers.specs.declared.Bounds.{Bounds}
use Rattle.words.specs.Word.{word}
use Rattle.words.specs.Kind as Kind
use Rattle.words.specs.Variables.{variables}
use Rattle.words.specs.Refusal.{accepted, ◌else_refuse◌}
use Rattle.words.specs.Answer.{Answer, refused, counts, ◌else_answer◌}
use Rattle.words.proofs.Answers.{first-answers}
use Rattle.models.specs.Model.{Constraint, constraints, source_words}
use Rattle.models.specs.Reading.{read_model}
use Rattle.modelreading.specs.declared.Model.{Model}
use Rattle.words.specs.Faults.{fault_number}
use Rattle.words.specs.declared.fault.Fault.{Fault}
use Rattle.words.proofs.Faulty.{fault-number}
use Rattle.rules.specs.Block.{block_words}
use Rattle.rules.specs.Shared.{Encoded, none_yet, choice, encodes, encoded_after}
use Rattle.rules.specs.Translation.{bounds, shared, block_of, each_block, blocks_words, system_words, auxiliaries, block_rows}
use Rattle.rules.specs.Check.{blocks_fault_in, check_fault_in, check, check_in}
use Rattle.rules.specs.InRange.{block_fault, blocks_fault}
use Rattle.sharing.proofs.Accepts.{one-fine}
use Rattle.integers.specs.Bounds.{bounds_in}
use Rattle.encodings.specs.Uses.{shared_by, Recorded}
use Rattle.encodings.proofs.Record.{none-many, recorded-none, recorded-after, length-after}
use Rattle.checking.specs.Walk.{Costs}
use Rattle.laying.specs.declared.Laid.{Laid}
use Rattle.checking.specs.ModelBounds.{ModelBounds}

-- ---- what check says of the constraints that are left

-- after k constraints with a auxiliaries, r rows and w words: v variables, of which e are encoded
unfoldable pub counts_from : (ℕ → Bounds) → (ℕ → Bool) → (v k a r w : ℕ) → Encoded → List Constraint → Answer
counts_from β s v k a r w e cs =
    blocks_fault β s (v + a) e cs
    else_answer counts v (k + length cs)
    (a + length (each_block β s (λ first d c. (block_of β s d c).auxiliaries) (v + a) e cs))
    (r + length (each_block β s (λ first d c. (block_of β s d c).rows) (v + a) e cs))
    (w + length (blocks_words β s (v + a) e cs))

-- ---- one constraint more, a fault, the end

same-counts : {v k l a b r s w x : ℕ} → k ≡ l → a ≡ b → r ≡ s → w ≡ x → counts v k a r w ≡ counts v l b s x
same-counts p q s t = cc

module _ (β : ℕ → Bounds) (s : ℕ → Bool) (v k a r w : ℕ) (d : Encoded) where
  one_more : (c : Constraint) (cs : List Constraint) → block_fault β s (v + a) d c ≡ 0 →
      counts_from β s v k a r w d (c ∷ cs)
      ≡ counts_from β s v (k + 1) (a + length (block_of β s d c).auxiliaries) (r + length (block_of β s d c).rows) (w + length (block_words (v + a) (block_of β s d c))) (encoded_after s (v + a) d (encodes (choice c))) cs
  unfolding counts_from blocks_fault_in blocks_words each_block
  one_more c cs f =
      let n = length (block_of β s d c).auxiliaries in
      let m = encoded_after s (v + a) d (encodes (choice c)) in
      let e : v + a + n ≡ v + (a + n) = omega arith in
      rw (f, e)
      (ap (λ answer. blocks_fault β s (v + (a + n)) m cs else_answer answer)
      (same-counts (omega arith)
      (omega (arith, length-append (block_of β s d c).auxiliaries (each_block β s (λ first e c. (block_of β s e c).auxiliaries) (v + (a + n)) m cs)))
      (omega (arith, length-append (block_of β s d c).rows (each_block β s (λ first e c. (block_of β s e c).rows) (v + (a + n)) m cs)))
      (omega (arith, length-append (block_words (v + a) (block_of β s d c)) (blocks_words β s (v + (a + n)) m cs)))))

  fault-here : (c : Constraint) (cs : List Constraint) → (block_fault β s (v + a) d c ≡ 0 → ⊥) →
      refused (block_fault β s (v + a) d c) c.place ≡ counts_from β s v k a r w d (c ∷ cs)
  unfolding counts_from blocks_fault_in ◌else_refuse◌
  fault-here c cs f = first-answers (block_fault β s (v + a) d c) c.place _ _ f

  all-counted : counts v k a r w ≡ counts_from β s v k a r w d []
  unfolding counts_from blocks_fault_in blocks_words each_block ◌else_answer◌
  all-counted = same-counts (omega arith) (omega arith) (omega arith) (omega arith)

-- ---- the walk

-- the first k constraints are without a fault, and need a auxiliaries, r rows and w words; d is the record
pub record Checking (β : ℕ → Bounds) (s : ℕ → Bool) (v : ℕ) (cs : List Constraint) (start k a r w : ℕ) (d : Encoded) : Type 0 where
  pub room : v + a ≤ 4096
  pub small : a + r + w ≤ start + 1000000 * k
  pub recorded : Recorded d
  pub many : length d ≡ 256
  pub left : counts_from β s v k a r w d (drop k cs) ≡ counts_from β s v 0 0 0 start none_yet cs

pub begun : (β : ℕ → Bounds) (s : ℕ → Bool) (v : ℕ) (cs : List Constraint) (start : ℕ) → v ≤ 256 → Checking β s v cs start 0 0 0 start none_yet
begun β s v cs start h = record { room = omega arith; small = omega arith; recorded = recorded-none; many = none-many; left = refl }

module _ {β : ℕ → Bounds} {s : ℕ → Bool} {v : ℕ} {cs : List Constraint} {start k a r w : ℕ} {d : Encoded} (l : Checking β s v cs start k a r w d) where
  module _ {c : Constraint} (e : drop k cs ≡ c ∷ drop (k + 1) cs) where
    pub more : {b : Laid} → Costs β s (v + a) d c (Ok b) → {d' : Encoded} → d' ≡ encoded_after s (v + a) d (encodes (choice c)) →
        Checking β s v cs start (k + 1) (a + b.auxiliaries) (r + b.rows) (w + b.words) d'
    more x q =
        let n = x.counted in
        let f : block_fault β s (v + a) d c ≡ 0 = sym x.fault in
        rw q
        record {
          room = omega (arith, (one-fine β s (v + a) d c f).2, n.auxiliaries);
          small = omega (arith, l.small, x.small);
          recorded = recorded-after s (v + a) d (encodes (choice c)) (omega (arith, l.room)) l.recorded;
          many = length-after s (v + a) d (encodes (choice c)) ∙ l.many;
          left = rw (n.words, n.auxiliaries, n.rows) (sym (one_more β s v k a r w d c (drop (k + 1) cs) f) ∙ rw e at l.left);
        }

    pub stop : {f : Fault} → Costs β s (v + a) d c (Err f) → refused (fault_number f) c.place ≡ counts_from β s v 0 0 0 start none_yet cs
    stop {f} x = rw x.fault (fault-here β s v k a r w d c (drop (k + 1) cs) (λ z. fault-number f (x.fault ∙ z)) ∙ rw e at l.left)

  pub done : length cs ≤ k → counts v k a r w ≡ counts_from β s v 0 0 0 start none_yet cs
  done h = all-counted β s v k a r w d ∙ rw (drop_of_length-le cs h) at l.left

-- ---- the whole

checks : (ws : List ℕ) → read_model ws ≡ accepted → counts_from (bounds ws) (shared ws) (length (variables ws)) 0 0 0 (length (source_words ws) + 1) none_yet (constraints ws) ≡ check ws
unfolding counts_from check_in check_fault_in system_words auxiliaries block_rows ◌else_refuse◌
checks ws h =
    let n = length (variables ws) in
    let e : n + 0 ≡ n = omega arith in
    let B = blocks_words (bounds ws) (shared ws) n none_yet (constraints ws) in
    rw (h, e)
    (ap (λ answer. blocks_fault (bounds ws) (shared ws) n none_yet (constraints ws) else_answer answer)
    (same-counts (omega arith) (omega arith) (omega arith)
    (omega (arith, length-append (source_words ws) (B ++ (word Kind.rows_end 0 ∷ [])), length-append B (word Kind.rows_end 0 ∷ [])))))

pub all-checked : {ws hs : List ℕ} {r : Model} {Ds : List Bounds} {uses : List ℕ} → ModelBounds ws hs r Ds uses →
    counts_from (bounds_in Ds) (shared_by uses) r.variables 0 0 0 (r.sources + 1) none_yet (constraints ws) ≡ check ws
all-checked {ws} m = rw (m.same, m.shares, m.seen.variables_counted, m.seen.sources_counted) (checks ws m.seen.accepts)
