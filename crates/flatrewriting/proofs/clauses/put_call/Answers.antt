use Rattle.std.proofs.Common.{ap, ◌∙◌, map, List}
use Rattle.flatzinc.specs.declared.Argument.{Argument}
use Rattle.flatzinc.specs.declared.Call.{Call}
use Rattle.flatzinc.specs.Calls.{placed_all}
use Rattle.flatzinc.specs.Seen.{row}
use Rattle.flatrewriting.specs.Arguments.{given, placed_of}
use Rattle.flatrewriting.specs.Made.{and_one}
use Rattle.flatrewriting.proofs.ClauseLaws.{placed-more, placed_call-of}
use Rattle.flatrewriting.proofs.clauses.put_call.Goals as goal

pub returns : goal.returns
returns c =
    let call : Call = record { code = c.args.code; arguments = c.in_ok-arguments.arguments } in
    rw c.in_ok-push.ensures.items (placed-more c.args.calls.now.items call ∙ ap (and_one (placed_all c.args.calls.now.items))
    (placed_call-of call ∙ ap (λ (gs : List Argument). placed_of (row c.args.code) (map given gs)) c.in_ok-arguments.ensures.items))
