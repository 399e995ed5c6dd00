use Rattle.std.proofs.Common.{◌≡◌, ◌+◌, ◌-◌, ◌≤◌, ◌<◌, ap, ap₂, ◌∙◌, [], ◌∷◌, List, ℕ, length, length-append, length-drop, take, drop, arith}
use Rattle.flatsplitting.specs.Added.{bounds}
use Rattle.flatsplitting.specs.Pieces.{of_list}
use Rattle.flatsplitting.proofs.Going as g
use Rattle.flatsplitting.proofs.cut_list.Goals as goal

pub cutting-preserved : goal.cutting-preserved
cutting-preserved c =
    let C = of_list c.args.reading in
    let s = g.sizes c.args.reading in
    let xs = c.cutting.numbers.items in
    let at = c.cutting.at in
    let size : c.part_size-size.result ≡ C.at = c.part_size-size.ensures in
    let cut : at + c.part_size-size.result - at ≡ C.at = omega (arith, size) in
    let long : at + 32 < length xs = omega (arith, c.len.ensures) in
    let longer = length-append xs (c.next_part-part.result ∷ []) in
    record {
      within = omega (arith, ap length c.in_ok-push.ensures.items, longer, s.1);
      going = g.going-on C s.0 s.1 c.args.model.now c.cutting.model c.list_part.new.model c.args.numbers.items xs c.push.new.self.items _ at c.part_size-size.result c.next_part-part.result c.cutting.invariant.going long
          c.in_ok-list_part.ensures (ap₂ (λ n (l : List ℕ). take n (drop at l)) cut c.deref.ensures.value) (c.next_part-part.ensures ∙ g.names c.args.reading (length (bounds c.cutting.model))) c.in_ok-push.ensures.items size;
    }

pub returns : goal.returns
returns c =
    let C = of_list c.args.reading in
    let s = g.sizes c.args.reading in
    let xs = c.cutting.numbers.items in
    let at = c.cutting.at in
    let d = length-drop at xs in
    let short : length (drop at xs) ≤ 32 = omega (arith, c.len.ensures) in
    let e = g.going-end C s.0 s.1 c.args.model.now c.cutting.model c.args.numbers.items (drop at xs) c.cutting.invariant.going short in
    (e.0, c.in_ok-from_slice.ensures.items ∙ g.from_place xs c.deref-2.result.now at c.deref-2.ensures.value ∙ e.1)
