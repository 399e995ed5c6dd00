-- A variable and a constraint in an answer.
use Rattle.std.specs.Prelude.{List, [], ◌++◌, ℕ, codes, decimal}
use Rattle.answers.specs.declared.named.Name.TheVariants.{Given, Auxiliary, Unnamed}
use Rattle.answers.specs.declared.named.Name.{Name}
use Rattle.answers.specs.declared.named.Variable.{Variable}
use Rattle.answers.specs.declared.named.Behind.TheVariants.{Nothing, Builtin, Line}
use Rattle.answers.specs.declared.named.Behind.{Behind}
use Rattle.answers.specs.declared.named.Constraint.{Constraint}
use Rattle.answers.specs.Escaped.{name_text}

-- by its name, else by its number after "#", for an auxiliary of a text, or "v"
abbrev pub called : Name → ℕ → List ℕ
called (Given name) number = name.now
called Auxiliary number = codes "#" ++ decimal number
called Unnamed number = codes "v" ++ decimal number

abbrev pub variable_text : Variable → List ℕ
variable_text v = called v.name v.number

-- the field of its name, where it has one
abbrev pub named_field : Name → List ℕ
named_field (Given name) = codes "\"name\":" ++ (name_text name.now ++ codes ",")
named_field Auxiliary = []
named_field Unnamed = []

abbrev pub name_field : Variable → List ℕ
name_field v = named_field v.name

unfoldable pub line_text : ℕ → List ℕ → ℕ → List ℕ
line_text number builtin line = codes "constraint " ++ (decimal number ++ (codes " (" ++ (builtin ++ (codes ", line " ++ (decimal line ++ codes ")")))))

unfoldable pub line_fields : ℕ → List ℕ → ℕ → List ℕ
line_fields number builtin line = codes "\"constraint\":" ++ (decimal number ++ (codes ",\"builtin\":\"" ++ (builtin ++ (codes "\",\"line\":" ++ decimal line))))

-- a constraint by its number, with its builtin and its line where they are known
abbrev pub behind_text : Behind → ℕ → List ℕ
behind_text Nothing number = codes "constraint " ++ decimal number
behind_text (Builtin b) number = codes "constraint " ++ (decimal number ++ (codes " (" ++ (b.now ++ codes ")")))
behind_text (Line b line) number = line_text number b.now line

abbrev pub constraint_text : Constraint → List ℕ
constraint_text c = behind_text c.behind c.number

abbrev pub behind_fields : Behind → ℕ → List ℕ
behind_fields Nothing number = codes "\"constraint\":" ++ decimal number
behind_fields (Builtin b) number = codes "\"constraint\":" ++ (decimal number ++ (codes ",\"builtin\":\"" ++ (b.now ++ codes "\"")))
behind_fields (Line b line) number = line_fields number b.now line

abbrev pub constraint_fields : Constraint → List ℕ
constraint_fields c = behind_fields c.behind c.number
