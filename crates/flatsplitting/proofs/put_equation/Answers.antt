use Rattle.std.proofs.Common.{sym, ap, ◌∙◌, [], ◌∷◌, ◌++◌}
use Rattle.std.proofs.lemmas.List.{map-append}
use Rattle.integers.specs.Number.{+0, -1}
use Rattle.models.specs.Builtin.{int_lin_eq}
use Rattle.std.proofs.Common.{Some}
use Rattle.flatsplitting.specs.Added.{term, product}
use Rattle.flatsplitting.proofs.Added as a
use Rattle.flatsplitting.proofs.put_equation.Goals as goal

pub returns : goal.returns
returns c =
    let ws = c.args.first.now ++ record { coefficient = -1; variable = c.args.part } ∷ [] in
    a.named c.put_call.result c.args.model.now c.put_call.new.model _ _
    (a.equation c.push.new.self ws (c.in_ok-push.ensures.items ∙ ap (λ l. l ++ product (record { coefficient = -1; variable = c.args.part }) ∷ []) c.in_ok-products.ensures ∙ sym (map-append product c.args.first.now (record { coefficient = -1; variable = c.args.part } ∷ [])))
    ∙ ap (λ ts. Some (int_lin_eq ts +0)) (map-append term c.args.first.now (record { coefficient = -1; variable = c.args.part } ∷ [])))
    c.put_call.ensures
