-- Every place among the names is below the number of the last code.
use Rattle.std.proofs.Common.{ap, ◌∙◌, arith}
use Rattle.names.specs.Found.{found_code}
use Rattle.names.proofs.Codes.{look_names, decoded}
use Rattle.names.proofs.code_of.Goals as goal

pub overflow_add-branch : goal.overflow_add-branch
overflow_add-branch c = omega (arith, c.in_ok-place_of.ensures, look_names c.args.name.now)

pub returns : goal.returns
returns c = let e = c.in_ok-place_of.ensures in ap found_code c.ok.ensures.value ∙ decoded _ (omega (arith, e, look_names c.args.name.now)) _ c.try_from.ensures ∙ e
