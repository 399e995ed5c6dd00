-- The chain counts the words up to the first that passes.
use Rattle.std.proofs.Common.{rules, tests, ◌∙◌, not}
use Rattle.std.proofs.lemmas.Iterator.{YieldsList-from_slice}
use Rattle.std.proofs.lemmas.Iterator.Consumers.{count_from_yields_List}
use Rattle.std.proofs.lemmas.Iterator.Search.{YieldsList-from_take_while}
use Rattle.std.proofs.lemmas.List.Folds.{length-prefix_len}
use Rattle.pairs.proofs.Before.{front}
use Rattle.pairs.proofs.words_before.Goals as goal

pub returns : goal.returns
returns g c = λ t h.
    count_from_yields_List c.take_while.result c.count.result c.count.ensures.ran (YieldsList-from_take_while _ (λ w. not (t w)) (YieldsList-from_slice c.args.ws.now cc) c.take_while.ensures.closure c.take_while.ensures.done (λ x b q k. search (rules, tests, h)))
    ∙ length-prefix_len (λ w. not (t w)) c.args.ws.now ∙ front t c.args.ws.now
