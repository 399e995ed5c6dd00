-- The words that pass the test are as many as the variables.
use Rattle.std.proofs.Common.{rules, ◌≡◌, ◌∙◌}
use Rattle.std.specs.Prelude.{count_by}
use Rattle.variables.specs.Start.{starts}
use Rattle.variables.proofs.Walk.{counts}
use Rattle.variables.proofs.count_variables.Goals as goal

pub returns : goal.returns
returns c =
    let e : c.count.result ≡ count_by starts c.args.ws.now = search rules in
    e ∙ counts c.args.ws.now
