-- The variable of a model that a variable of FlatZinc becomes.
use Rattle.flatrewriting.specs.Variables.{domain_bounds}
use Rattle.flatzinc.specs.Seen as seen
use Rattle.flatzinc.specs.declared.Declared.{Declared}
use Rattle.flatzinc.specs.declared.ModelVariable.{ModelVariable}
use Rattle.flattening.specs.Booleans.{is_bools}

abbrev pub model_variable : Declared → ModelVariable
model_variable d = record { is_boolean = is_bools d.domain; bounds = domain_bounds (seen.domain d.domain) }
