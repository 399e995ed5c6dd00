use Rattle.std.proofs.Common.{rules, ◌≡◌, ◌∙◌, true}
use Rattle.std.specs.List.{list_all}
use Rattle.integers.specs.Lists.{all}
use Rattle.flatconstants.specs.Typed.{call_typed}
use Rattle.flattening.specs.Booleans.{boolean_given, boolean_item}
use Rattle.flattening.proofs.Carrying.{numbered-of, some-there}
use Rattle.flattening.proofs.carry.numbered_of.Goals as goal

pub returns : goal.returns
returns c =
    let F = c.args.all.now in
    let o = some-there _ c.in_ok-calls.ensures.1 in
    let g : list_all (boolean_given F.variables.items) F.variables.items ≡ true = search rules in
    let t : list_all (boolean_item F.variables.items) F.constraints.items ≡ true = search rules in
    let y : all (call_typed c.in_ok-numbered.numbered.variables.items) c.in_ok-numbered.numbered.calls.items ≡ true = search rules in
    numbered-of F c.in_ok-calls.calls.items o.0 c.in_ok-numbered.numbered g t (c.in_ok-calls.ensures.0 ∙ o.1) o.1
    (rw (c.deref-3.ensures.value, c.in_ok-model_variables.ensures, c.deref-2.ensures.value) at c.in_ok-numbered.ensures.numbered)
    (rw (c.deref-3.ensures.value, c.in_ok-model_variables.ensures, c.deref-2.ensures.value) at c.in_ok-numbered.ensures.declared) y
