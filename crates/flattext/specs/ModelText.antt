-- The text of a model: a line a variable, with its number, the model's names for it and its place, and a line a constraint, with its place.
use Rattle.std.specs.Prelude.{List, [], ◌∷◌, ◌++◌, ℕ, ◌+◌, get_or, Option, Some, None, codes}
use Rattle.std.specs.Fmt.{decimal, signed_decimal}
use Rattle.integers.specs.Choice.{◌if◌else◌}
use Rattle.models.specs.declared.code.Code.{Code}
use Rattle.flatzinc.specs.declared.ModelVariable.{ModelVariable}
use Rattle.flatzinc.specs.declared.Call.{Call}
use Rattle.flatplaces.specs.Place.{Place}
use Rattle.flattext.specs.Builtin.{builtin_name}
use Rattle.flattext.specs.Called.{Called, nameless}
use Rattle.flattext.specs.CallText.{arguments_text}

-- a comment FILE:LINE, where there is a place, and the end of the line
unfoldable pub place_text : Option Place → List ℕ
place_text None = codes "\n"
place_text (Some p) = codes " % " ++ p.file ++ codes ":" ++ decimal p.line ++ codes "\n"

unfoldable pub domain_text : ModelVariable → List ℕ
domain_text v = codes "bool" if v.is_boolean else signed_decimal v.bounds.lower ++ codes ".." ++ signed_decimal v.bounds.upper

-- the k-th variable
unfoldable pub variable_line : ℕ → ModelVariable → Called → List ℕ
variable_line k v c = codes "var " ++ domain_text v ++ codes ": " ++ c.name ++ codes "; % " ++ decimal k ++ c.labels ++ place_text c.place

-- before its arguments
unfoldable pub head_text : Code → List ℕ
head_text code = codes "constraint " ++ builtin_name code ++ codes "("

unfoldable pub call_line : List Called → Call → Option Place → List ℕ
call_line names c place = head_text c.code ++ arguments_text names c ++ codes ");" ++ place_text place

-- from the k-th on
abbrev pub variable_lines : List Called → ℕ → List ModelVariable → List ℕ
variable_lines names k [] = []
variable_lines names k (v ∷ vs) = variable_line k v (get_or names k nameless) ++ variable_lines names (k + 1) vs

abbrev pub call_lines : List Called → List (Option Place) → ℕ → List Call → List ℕ
call_lines names places k [] = []
call_lines names places k (c ∷ cs) = call_line names c (get_or places k None) ++ call_lines names places (k + 1) cs

abbrev pub model_text : List ModelVariable → List Called → List Call → List (Option Place) → List ℕ
model_text vs names cs places = variable_lines names 0 vs ++ call_lines names places 0 cs ++ codes "solve satisfy;\n"
