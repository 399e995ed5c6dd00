-- The first list, then the others, each after a comma.
use Rattle.std.proofs.Common.{[], ◌∷◌, arith}
use Rattle.answers.specs.Lists.{list_text}
use Rattle.answers.proofs.Listed.{first_and_others}
use Rattle.answers.proofs.lists.put_listed.Goals as goal

pub returns : goal.returns
returns c =
    first_and_others (list_text (91 ∷ []) (44 ∷ []) (93 ∷ [])) (44 ∷ []) c.args.count c.args.n c.args.values.now c.split_at.result.0.now c.split_at.result.1.now c.args.out.now.items _ _ (omega arith) c.split_at.ensures.front c.split_at.ensures.back
    c.in_ok-put_list.ensures c.in_ok-put_lists.ensures
