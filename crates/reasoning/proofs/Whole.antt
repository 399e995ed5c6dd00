-- Faults, bounds, rows: the parts of the whole answer.
use Rattle.std.proofs.Common.{◌≡◌, ap, sym, ◌∙◌, true, false, List, ◌++◌, ℕ, ◌+◌, ◌<◌, arith, zero-add, ℤ, pos, length, length-append, take, get_or-take, eq-eqb, ne_eqb}
use Rattle.integers.specs.Terms.{value}
use Rattle.integers.specs.declared.Bounds.{Bounds}
use Rattle.words.specs.Variables.{variables}
use Rattle.words.specs.Refusal.{◌else_refuse◌}
use Rattle.words.specs.Answer.{Answer, refused, holds, is_holds, ◌else_answer◌}
use Rattle.words.specs.Judge.{first_out_of_bounds}
use Rattle.words.specs.Small.{Small}
use Rattle.words.proofs.Answers.{is-holds}
use Rattle.variables.proofs.After.{next, found}
use Rattle.variables.proofs.Small.{small}
use Rattle.rules.specs.Translation.{auxiliaries, system_words}
use Rattle.rules.specs.Check.{check}
use Rattle.rules.specs.Fill.{filled_count}
use Rattle.sharing.specs.SharedSolutions.{Passes}
use Rattle.checking.proofs.Answers.{check-stands, refused-first}
use Rattle.reasons.specs.Reason.{Reason, refuse, none, explained, answer_or, first_failing, reason_fault, reason}
use Rattle.reasons.proofs.Judged.{all-bounds}
use Rattle.reasoning.proofs.Counted.{outside-same, outside-then, answer-here}

-- check's refusal stands
module _ (ws : List ℕ) (vs : List ℤ) where
  pub stands : {n p : ℕ} → refused n p ≡ check ws → refuse n p ≡ reason ws vs
  unfolding reason reason_fault ◌else_answer◌
  stands {n} {p} e =
      let h = check-stands ws e in
      let F = first_out_of_bounds (value vs) 0 (variables ws ++ auxiliaries ws) holds in
      let X = first_failing (value (take (length (variables ws)) vs)) (value vs) 0 0 (explained ws) in
      rw h.1 (ap (λ (a : Answer). answer_or a X) (refused-first n p F h.0))

module _ (ws : List ℕ) (passes : Passes ws) (vs : List ℤ) where
  abbrev n : ℕ
  n = length (variables ws)

  abbrev Bs : List Bounds
  Bs = variables ws ++ auxiliaries ws

  pub wrong-count : (length vs ≡ length (variables ws) + length (auxiliaries ws) → ⊥) → refuse 15 0 ≡ reason ws vs
  unfolding reason reason_fault filled_count ◌else_refuse◌ ◌else_answer◌
  wrong-count f = rw (passes, ne_eqb (length vs) (length (variables ws) + length (auxiliaries ws)) f)

  module _ (counted : length vs ≡ length (variables ws) + length (auxiliaries ws)) where
    abbrev failing : Reason
    failing = first_failing (value (take (length (variables ws)) vs)) (value vs) 0 0 (explained ws)

    whole : reason ws vs ≡ answer_or (first_out_of_bounds (value vs) 0 Bs holds) failing
    unfolding reason reason_fault filled_count ◌else_refuse◌ ◌else_answer◌
    whole = rw (passes, eq-eqb (length vs) (length (variables ws) + length (auxiliaries ws)) counted)

    same-value : (v : ℕ) → v < 0 + length (variables ws) → value (take (length (variables ws)) vs) v ≡ value vs v
    unfolding value
    same-value v l = get_or-take (length (variables ws)) vs v (pos 0) (omega (arith, l))

    same-sources : first_out_of_bounds (value (take (length (variables ws)) vs)) 0 (variables ws) holds ≡ first_out_of_bounds (value vs) 0 (variables ws) holds
    same-sources = outside-same (value (take (length (variables ws)) vs)) (value vs) 0 (variables ws) holds same-value

    apart : first_out_of_bounds (value vs) 0 Bs holds ≡ first_out_of_bounds (value vs) 0 (variables ws) (first_out_of_bounds (value vs) n (auxiliaries ws) holds)
    apart =
        outside-then (value vs) 0 (variables ws) (auxiliaries ws) holds
        ∙ ap (λ (k : ℕ). first_out_of_bounds (value vs) 0 (variables ws) (first_out_of_bounds (value vs) k (auxiliaries ws) holds)) (zero-add n)

    -- an answer that is that of all bounds
    said : {a : Answer} → a ≡ first_out_of_bounds (value vs) 0 Bs holds → is_holds a ≡ false → answer_or a none ≡ reason ws vs
    said q f = ap (λ (x : Answer). answer_or x none) q ∙ answer-here (value vs) 0 Bs none failing (sym (ap is_holds q) ∙ f) ∙ sym whole

    module _ {a : Answer} (e : a ≡ first_out_of_bounds (value (take (length (variables ws)) vs)) 0 (variables ws) holds) where
      pub source-outside : is_holds a ≡ false → answer_or a none ≡ reason ws vs
      source-outside f =
          let g = e ∙ same-sources in
          said (g ∙ found (value vs) (first_out_of_bounds (value vs) n (auxiliaries ws) holds) 0 (variables ws) (sym (ap is_holds g) ∙ f) ∙ sym apart) f

      module _ (t : is_holds a ≡ true) {b : Answer} (d : b ≡ first_out_of_bounds (value vs) (length (variables ws)) (auxiliaries ws) holds) where
        all_of : b ≡ first_out_of_bounds (value vs) 0 Bs holds
        all_of =
            d
            ∙ next (value vs) (first_out_of_bounds (value vs) n (auxiliaries ws) holds) 0 (variables ws) (is-holds _ (sym (ap is_holds (e ∙ same-sources)) ∙ t))
            ∙ sym apart

        pub auxiliary-outside : is_holds b ≡ false → answer_or b none ≡ reason ws vs
        auxiliary-outside f = said all_of f

        module _ (s : is_holds b ≡ true) where
          none-outside : first_out_of_bounds (value vs) 0 Bs holds ≡ holds
          none-outside = sym all_of ∙ is-holds b s

          pub rows_next : failing ≡ reason ws vs
          rows_next = sym (whole ∙ ap (λ (x : Answer). answer_or x failing) none-outside)

          pub values-small : Small vs
          values-small =
              let q = all-bounds ws passes in
              small (system_words ws) vs (counted ∙ sym (length-append (variables ws) (auxiliaries ws)) ∙ ap length q) (ap (λ (l : List Bounds). first_out_of_bounds (value vs) 0 l holds) (sym q) ∙ none-outside)
