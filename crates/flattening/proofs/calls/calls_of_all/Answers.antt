use Rattle.std.proofs.Common.{ap, ap₂, ◌∙◌}
use Rattle.flatzinc.specs.Calls.{placed_all}
use Rattle.flattening.specs.Flattened.{joined}
use Rattle.flattening.proofs.PlacedCalls.{placed_append}
use Rattle.flattening.proofs.GrownCalls.{both-there, variables-there}
use Rattle.flattening.proofs.calls.calls_of_all.Goals as goal

pub returns : goal.returns
returns c =
    rw (← c.deref.ensures.value, ← c.deref-2.ensures.value) (
      ap placed_all c.in_ok-append.ensures.items ∙ placed_append _ _ ∙ ap₂ joined c.in_ok-calls.ensures c.in_ok-more.ensures.0,
      both-there _ _ (variables-there 0 _) c.in_ok-more.ensures.1,
    )
