use Rattle.std.proofs.Common.{refl, ap, ◌∙◌, [], ◌∷◌, ◌++◌}
use Rattle.flatsplitting.proofs.Added as a
use Rattle.flatsplitting.proofs.put_call.Goals as goal

pub returns : goal.returns
returns c =
    a.one-call c.args.model.now _ _ c.args.code (c.args.first ∷ c.args.second ∷ []) refl c.in_ok-push-3.ensures.items refl
    (c.in_ok-push-2.ensures.items ∙ ap (λ l. l ++ c.args.second ∷ []) (c.in_ok-push.ensures.items ∙ ap (λ l. l ++ c.args.first ∷ []) c.new-arguments.ensures.items))
