use Rattle.std.proofs.Common.{◌≡◌, sym, ◌+◌, ◌-◌, ◌≤◌, ◌<◌, ap, ◌∙◌, [], ◌∷◌, List, map, ℕ, length, length-append, length-drop, take, drop, arith, refl}
use Rattle.std.proofs.lemmas.List.{take-map, drop-map, map-append, length-map}
use Rattle.integers.specs.Number.{+1}
use Rattle.flatsplitting.specs.declared.Weighted.{Weighted}
use Rattle.flatsplitting.specs.Added.{term}
use Rattle.flatsplitting.specs.Pieces.{of_sum}
use Rattle.flatsplitting.proofs.Going as g
use Rattle.flatsplitting.proofs.cut_sum.Goals as goal

first_terms : (m at : ℕ) (xs ys : List Weighted) → m ≡ 31 → ys ≡ xs → map term (take m (drop at ys)) ≡ take 31 (drop at (map term xs))
first_terms m at xs ys e f = rw (e, f) (sym (take-map term 31 (drop at xs)) ∙ ap (take 31) (sym (drop-map term at xs)))

pub cutting-preserved : goal.cutting-preserved
cutting-preserved c =
    let xs = c.cutting.terms.items in
    let at = c.cutting.at in
    let x : Weighted = record { coefficient = +1; variable = c.next_part-part.result } in
    let m = length-map xs term in
    let cut : at + 31 - at ≡ 31 = omega arith in
    let long : at + 32 < length xs = omega (arith, c.len.ensures) in
    let longer = length-append xs (x ∷ []) in
    record {
      within = omega (arith, ap length c.in_ok-push.ensures.items, longer);
      going = g.going-on of_sum (omega arith) (omega arith) c.args.model.now c.cutting.model c.sum_part.new.model (map term c.args.terms.items) (map term xs) (map term c.push.new.self.items) _ at 31 (term x) c.cutting.invariant.going (omega arith)
          c.in_ok-sum_part.ensures (first_terms _ at xs _ cut c.deref.ensures.value) (ap (λ n. term (record { coefficient = +1; variable = n })) c.next_part-part.ensures)
          (ap (map term) c.in_ok-push.ensures.items ∙ map-append term xs (x ∷ [])) refl;
    }

pub returns : goal.returns
returns c =
    let xs = c.cutting.terms.items in
    let at = c.cutting.at in
    let m = length-map xs term in
    let d = length-drop at (map term xs) in
    let short : length (drop at (map term xs)) ≤ 32 = omega (arith, c.len.ensures) in
    let e = g.going-end of_sum (omega arith) (omega arith) c.args.model.now c.cutting.model (map term c.args.terms.items) (drop at (map term xs)) c.cutting.invariant.going short in
    (e.0, ap (map term) (c.in_ok-from_slice.ensures.items ∙ g.from_place xs c.deref-2.result.now at c.deref-2.ensures.value) ∙ sym (drop-map term at xs) ∙ e.1)
