-- From the first list on, all lists are gone through.
use Rattle.std.proofs.Common.{ap, ◌∙◌, List, ℤ, length}
use mathlib.Core.List.{flatten}
use Rattle.words.specs.Overlay.{overlay}
use Rattle.solutions.proofs.All.{ready, all-solutions}
use Rattle.solutions.proofs.Search.write_all.Goals as goal

pub write_from-requires : goal.write_from-requires
write_from-requires c =
    ready c.requires _ c.set_lowest.ensures

pub returns : goal.returns
returns c =
    let all = all-solutions c.requires _ c.set_lowest.ensures c.args.self.now.ws.now in
    record {
      count = c.write_from.ensures.count ∙ ap length all;
      output = c.write_from.ensures.output ∙ ap (λ (l : List (List ℤ)). overlay c.args.out.now 0 (flatten l)) all;
    }
