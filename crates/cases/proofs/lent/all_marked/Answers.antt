-- The elements that `all` sees are those of the list.
use Rattle.std.proofs.Common.{rules, tests}
use Rattle.std.proofs.lemmas.Iterator.{YieldsList-from_slice}
use Rattle.std.proofs.lemmas.Iterator.Search.{all_from_yields_List}
use Rattle.cases.proofs.lent.all_marked.Goals as goal

pub returns : goal.returns
returns g c =
    let test = λ (x : g.row.T.Denot). g.T.PartialEq.eq x g.T.Element.MARK in
    all_from_yields_List test _ _ c.all.result c.all.ensures.ran (YieldsList-from_slice c.args.list.now cc) (λ x b q k. search (rules, tests))
