use Rattle.std.proofs.Common.{◌≡◌, refl, sym, ap, ◌∙◌, subst, List, ◌∷◌, ℕ, ◌+◌, length, drop, rules, arith}
use Rattle.std.proofs.lemmas.List.{drop_more, length_push, at_drop_all}
use Rattle.std.proofs.lemmas.Iterator.Adapters.{YieldsList-from_vec}
use Rattle.std.proofs.lemmas.Iterator.Consumers.{YieldsList-turn, YieldsList-end}
use Rattle.flatzinc.specs.declared.Call.{Call}
use Rattle.flatzinc.specs.Numbers.{bounds_of}
use Rattle.flatsplitting.specs.Split.{enough}
use Rattle.flatsplitting.proofs.Along as a
use Rattle.flatsplitting.proofs.split_lists.Goals as goal

pub loop-call-init : goal.loop-call-init
loop-call-init c bs e = a.along-start (bounds_of c.args.variables.items) bs (record { variables = c.args.variables; calls = c.new.result }) c.args.calls.items refl c.new.ensures.items e

pub loop-call-preserved : goal.loop-call-preserved
loop-call-preserved c bs e =
    let xs = c.args.calls.items in
    let k = c.in-Some.call in
    let n = length c.loop-call.yielded in
    let g = c.into_iter-call-iterator.ensures.into_iter_gives in
    let t = YieldsList-turn (YieldsList-from_vec {s = c.into_iter-call-iterator.result} xs g.0 (search (rules, g.1))) c.loop-call.yielded c.loop-call.call-iterator c.loop-call.yielded_by c.next.result c.next.new.self k c.in-Some.is c.next.ensures.steps in
    let d : drop n xs ≡ k ∷ drop (n + 1) xs = drop_more xs n k t.0 ∙ ap (λ (y : Call). y ∷ drop (n + 1) xs) (sym t.1) in
    let before = subst (λ (r : List Call). a.Along (enough bs) (bounds_of c.args.variables.items) bs c.loop-call.model r) d (c.loop-call.invariant bs e) in
    subst (λ (m : ℕ). a.Along (enough bs) (bounds_of c.args.variables.items) bs c.split_call.new.model (drop m xs)) (sym (length_push c.loop-call.yielded k))
    (a.along-step (enough bs) (bounds_of c.args.variables.items) bs c.loop-call.model c.split_call.new.model k (drop (n + 1) xs) before (λ b h. c.in_ok-split_call.ensures b h))

pub returns : goal.returns
returns c bs e =
    let xs = c.args.calls.items in
    let n = length c.loop-call.yielded in
    let g = c.into_iter-call-iterator.ensures.into_iter_gives in
    let t = YieldsList-end (YieldsList-from_vec {s = c.into_iter-call-iterator.result} xs g.0 (search (rules, g.1))) c.loop-call.yielded c.loop-call.call-iterator c.loop-call.yielded_by c.next.result c.next.new.self c.in-None.is c.next.ensures.steps in
    a.along-end (bounds_of c.args.variables.items) bs c.loop-call.model
    (subst (λ (r : List Call). a.Along (enough bs) (bounds_of c.args.variables.items) bs c.loop-call.model r) (at_drop_all (λ l. l) xs n (omega (arith, t.1))) (c.loop-call.invariant bs e))
