use Rattle.std.proofs.Common.{[], ◌∷◌, map, subst, List, ℕ, Option, Some, OnOk}
use Rattle.models.specs.Builtin.{Builtin, bool_clause}
use Rattle.flatsplitting.specs.Added.{Adds}
use Rattle.flatsplitting.proofs.Added as a
use Rattle.flatsplitting.proofs.put_choice.Goals as goal

pub returns : goal.returns
returns c =
    let f : ℕ → Builtin = λ x. bool_clause (c.args.part ∷ []) (x ∷ []) in
    let b = c.put_clause.new.model in
    let d = c.put_implications.new.model in
    a.after c.put_implications.result c.args.model.now b d [] [] (Some (bool_clause c.args.first.now (c.args.part ∷ [])) ∷ []) (map Some (map f c.args.first.now)) c.in_ok-put_clause.ensures
    (subst (λ (qs : List (Option Builtin)). OnOk c.put_implications.result (Adds b d [] qs)) (a.map_some f c.args.first.now) c.put_implications.ensures)
