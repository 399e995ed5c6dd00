-- THE LAW OF REASONS: of a model that passes the check, the row, the constraint and the reason that are named are the true ones (specs/Behind.antt).
use Rattle.std.proofs.Common.{◌≡◌, refl, sym, ap, ◌∙◌, subst, Bool, true, false, List, [], ◌∷◌, ◌++◌, append-nil, ℕ, suc, ◌+◌, ◌≤◌, ◌<◌, arith, eqb, ℤ, pos, length, length-append, take, get_or-take, length-take-le, eqb-true}
use mathlib.Core.List.{flat_map}
use lib.ListN.{get_or-append}
use Rattle.integers.specs.Choice.{◌if◌else◌}
use Rattle.integers.specs.Number.{+0}
use Rattle.integers.specs.Bounds.{◌to◌, within, bounds_in}
use Rattle.integers.specs.Terms.{Valuation, value}
use Rattle.integers.specs.declared.Bounds.{Bounds}
use Rattle.integers.proofs.Lists.{all-members}
use Rattle.integers.proofs.Tests.{In, All, says-within}
use Rattle.words.specs.Fault as Fault
use Rattle.words.specs.Variables.{variables}
use Rattle.words.specs.Refusal.{◌at_place◌, accepted, ◌else_refuse◌}
use Rattle.words.specs.Answer.{Answer, holds, out_of_bounds, ◌else_answer◌}
use Rattle.words.specs.Judge.{judge, first_false, first_out_of_bounds}
use Rattle.words.proofs.Judge.{judge-holds}
use Rattle.models.specs.Model.{constraints}
use Rattle.rowsystems.specs.RowSystem.{rows}
use Rattle.rules.specs.Shared.{none_yet}
use Rattle.rules.specs.Translation.{bounds, shared, auxiliaries, system_words, picks}
use Rattle.rules.specs.Fill.{filled_count}
use Rattle.sharing.specs.SharedSolutions.{Passes}
use Rattle.sharing.proofs.Good.{Keeps, Sat}
use Rattle.sharing.proofs.OneHot.{From}
use Rattle.sharing.proofs.Satisfied.{keeps-bounds}
use Rattle.sharing.proofs.Shared.{agrees, all_fit, all_plain, none-held}
use Rattle.sharing.proofs.Theorem.{typed, plain, well-formed}
use Rattle.reasons.specs.Reason.{Reason, refuse, outside, none, because, explained, answer_or, reason_fault, reason}
use Rattle.reasons.specs.Behind.{At, rows_before, source_values, completed, Behind, TrueReason}
use Rattle.reasons.proofs.Judged.{explained-rows, explained-constraints, row_answer, same_answer, same_row}
use Rattle.reasons.proofs.Found.{at-member, at_map, found}
use Rattle.reasons.proofs.Completed.{Holds, picks_hold, one-differs}

-- ---- a row is named: there is no fault, and no value is out of bounds

module _ (x : Reason) (K J : ℕ) (b : Bool) where
  inside : (σ : Valuation) (k : ℕ) (Bs : List Bounds) → answer_or (first_out_of_bounds σ k Bs holds) x ≡ because K J b → (first_out_of_bounds σ k Bs holds ≡ holds) × (x ≡ because K J b)
  unfolding first_out_of_bounds
  inside σ k [] e = (refl, e)
  inside σ k (B ∷ Bs) e = go (within B (σ k)) e (inside σ (k + 1) Bs)
    where
      go : (s : Bool) → answer_or (first_out_of_bounds σ (k + 1) Bs holds if s else out_of_bounds k) x ≡ because K J b →
          (answer_or (first_out_of_bounds σ (k + 1) Bs holds) x ≡ because K J b → (first_out_of_bounds σ (k + 1) Bs holds ≡ holds) × (x ≡ because K J b)) →
          ((first_out_of_bounds σ (k + 1) Bs holds if s else out_of_bounds k) ≡ holds) × (x ≡ because K J b)
      go true e more = more e
      go false e more = let z : ◌≡◌ {A = ℕ} 0 1 = cc in absurd (omega arith)

  -- of a model that passes the check, there are as many values as variables and auxiliaries
  counted : (ws : List ℕ) (vs : List ℤ) → Passes ws → (a : Answer) → answer_or (reason_fault ws vs else_answer a) x ≡ because K J b →
      (length vs ≡ filled_count ws) × (answer_or a x ≡ because K J b)
  unfolding reason_fault ◌else_refuse◌ ◌else_answer◌
  counted ws vs passes a = rw passes (go (eqb (length vs) (filled_count ws)) refl)
    where
      go : (t : Bool) → eqb (length vs) (filled_count ws) ≡ t → answer_or ((accepted if t else Fault.wrong_value_count at_place 0) else_answer a) x ≡ because K J b →
          (length vs ≡ filled_count ws) × (answer_or a x ≡ because K J b)
      go true h e = (eqb-true _ _ h, e)
      go false h e = let z : ◌≡◌ {A = ℕ} 0 1 = cc in absurd (omega arith)

-- values that keep all bounds: those of the source variables keep theirs
sources-kept : (Vs As : List Bounds) (vs : List ℤ) → first_out_of_bounds (value vs) 0 (Vs ++ As) holds ≡ holds → Keeps Vs (value (take (length Vs) vs))
unfolding judge first_false value bounds_in
sources-kept Vs As vs h =
    let k = ((judge-holds {A = ℕ} (value vs) (Vs ++ As) (λ x. true) []).0 h).0 in
    (keeps-bounds Vs (value (take (length Vs) vs))).1 (λ v l.
    let in_both : v < length (Vs ++ As) = omega (arith, length-append Vs As) in
    let w = (says-within (bounds_in (Vs ++ As) v) (value vs v)).0 (k v in_both) in
    let same-bounds : bounds_in (Vs ++ As) v ≡ bounds_in Vs v = get_or-append Vs As (+0 to +0) v l in
    let same-value : value vs v ≡ value (take (length Vs) vs) v = sym (get_or-take (length Vs) vs v (pos 0) l) in
    subst (λ B. In B (value (take (length Vs) vs) v)) same-bounds (subst (λ z. In (bounds_in (Vs ++ As) v) z) same-value w))

-- ---- the whole

module _ (ws : List ℕ) (passes : Passes ws) (vs : List ℤ) where
  abbrev n : ℕ
  n = length (variables ws)

  -- the source values; fill's values
  abbrev σ : Valuation
  σ = value (source_values ws vs)

  abbrev τ : Valuation
  τ = value (completed ws vs)

  source-value : (v : ℕ) → v < n → value vs v ≡ σ v
  unfolding value
  source-value v h = sym (get_or-take n vs v (pos 0) h)

  -- fill's values satisfy the rows of every builtin that is true
  fill_holds : n ≤ length vs → Keeps (variables ws) σ → All (Holds σ τ) (explained ws) × ((v : ℕ) → v < n → τ v ≡ σ v)
  unfolding explained bounds picks
  fill_holds l k =
      let xs = picks ws (source_values ws vs) in
      let a = agrees n (source_values ws vs) xs (length-take-le n vs l) in
      let β = bounds_in (variables ws) in
      let t = typed ws passes in
      let f : From n τ (value (xs ++ [])) = rw (append-nil xs) a.after in (
        picks_hold β (shared ws) n τ σ a.before n none_yet (constraints ws) (all_plain (variables ws) (constraints ws) t (plain ws passes)) (well-formed ws passes) (all_fit (variables ws) (constraints ws) t σ k) (none-held β τ) [] f,
        a.before,
      )

  pub behind : (K J : ℕ) (b : Bool) → reason ws vs ≡ because K J b → Behind ws vs K J b
  unfolding reason rows_before filled_count
  behind K J b e =
      let c = counted _ K J b ws vs passes _ e in
      let i = inside _ K J b (value vs) 0 (variables ws ++ auxiliaries ws) c.1 in
      let r = found σ (value vs) 0 0 (explained ws) K J b i.1 in
      let row-place : r.index ≡ K = omega (arith, r.row-counted) in
      let place : r.place ≡ J = omega (arith, r.counted) in
      let next : suc r.place ≡ J + 1 = omega (arith, r.counted) in
      let f = fill_holds (omega (arith, c.0)) (sources-kept (variables ws) (auxiliaries ws) vs i.0) in
      let true-rows : b ≡ true → Sat τ r.row =
      λ h. (all-members (Sat τ) r.explained.rows).0 ((all-members (Holds σ τ) (explained ws)).0 f.0 r.explained (at-member (explained ws) r.place r.explained r.there) (sym r.said ∙ h)) r.row r.listed in
      record {
        row = r.row;
        numbered = subst (λ k. At (rows (system_words ws)) k r.row) row-place (subst (λ rs. At rs r.index r.row) (explained-rows ws passes) r.row-there);
        fails = r.fails;
        named = same_row ws passes vs K J b e;
        constraint = r.explained.constraint;
        placed = subst (λ k. At (constraints ws) k r.explained.constraint) place (subst (λ cs. At cs r.place r.explained.constraint) (explained-constraints ws) (at_map (λ x. x.constraint) (explained ws) r.place r.explained r.there));
        from = subst (λ k. length (flat_map (λ x. x.rows) (take k (explained ws))) ≤ K) place (omega (arith, r.from));
        before = subst (λ k. K < length (flat_map (λ x. x.rows) (take k (explained ws)))) next (omega (arith, r.before));
        said = r.said;
        auxiliaries = λ h. one-differs n (value vs) τ (λ v l. source-value v l ∙ sym (f.1 v l)) r.row r.fails (true-rows h);
      }

  -- THE LAW, of every answer
  pub true-reason : (x : Reason) → reason ws vs ≡ x → TrueReason ws vs x
  true-reason (refuse n p) e = tt
  true-reason (outside i) e = sym (same_answer ws passes vs) ∙ ap row_answer e
  true-reason none e = sym (same_answer ws passes vs) ∙ ap row_answer e
  true-reason (because k j b) e = behind k j b e

-- of an answer that is the definition's
pub true_of : (ws : List ℕ) (vs : List ℤ) {x : Reason} → Passes ws → x ≡ reason ws vs → TrueReason ws vs x
true_of ws vs {x} passes e = true-reason ws passes vs x (sym e)
