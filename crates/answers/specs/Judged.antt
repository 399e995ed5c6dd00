-- What judge, fill and reason say; status 1 where something is false or out of bounds.
use Rattle.std.specs.Prelude.{Bool, true, false, List, ◌++◌, ℕ, codes, decimal, ℤ}
use Rattle.std.specs.Fmt.{signed_decimal}
use Rattle.answers.specs.declared.Style.{Style}
use Rattle.answers.specs.declared.Style.TheVariants.{Text, Json}
use Rattle.answers.specs.declared.named.Constraint.{Constraint}
use Rattle.answers.specs.declared.named.Variable.{Variable}
use Rattle.answers.specs.declared.judgements.Outside.{Outside}
use Rattle.answers.specs.Named.{variable_text, name_field, constraint_text, constraint_fields}
use Rattle.answers.specs.Said.{Said, printed_said}

abbrev pub holds_said : Style → Said
holds_said Text = printed_said (codes "holds\n") 0
holds_said Json = printed_said (codes "{\"answer\":\"holds\"}\n") 0

abbrev pub no_row_said : Style → Said
no_row_said Text = printed_said (codes "no row fails\n") 0
no_row_said Json = printed_said (codes "{\"answer\":\"none\"}\n") 0

-- a value outside its variable's bounds
unfoldable pub bounds_text : ℤ → ℤ → ℤ → List ℕ
bounds_text value lower upper = codes " is out of bounds: " ++ (signed_decimal value ++ (codes " is not in " ++ (signed_decimal lower ++ (codes ".." ++ (signed_decimal upper ++ codes "\n")))))

unfoldable pub bounds_fields : ℤ → ℤ → ℤ → List ℕ
bounds_fields value lower upper = codes "\"value\":" ++ (signed_decimal value ++ (codes ",\"lower\":" ++ (signed_decimal lower ++ (codes ",\"upper\":" ++ (signed_decimal upper ++ codes "}\n")))))

unfoldable pub outside_front : ℕ → List ℕ
outside_front number = codes "{\"answer\":\"out of bounds\",\"variable\":" ++ (decimal number ++ codes ",")

abbrev pub outside_text : Outside → List ℕ
outside_text o = variable_text o.variable ++ bounds_text o.value o.lower o.upper

abbrev pub outside_json : Variable → List ℕ → List ℕ
outside_json v rest = outside_front v.number ++ (name_field v ++ rest)

abbrev pub outside_said : Style → Outside → Said
outside_said Text o = printed_said (outside_text o) 1
outside_said Json o = printed_said (outside_json o.variable (bounds_fields o.value o.lower o.upper)) 1

-- a false constraint, a false row
abbrev pub false_said : Style → Constraint → Said
false_said Text c = printed_said (constraint_text c ++ codes " is false\n") 1
false_said Json c = printed_said (codes "{\"answer\":\"false\"," ++ (constraint_fields c ++ codes "}\n")) 1

abbrev pub false_row_said : Style → ℕ → Said
false_row_said Text row = printed_said (codes "row " ++ (decimal row ++ codes " is false\n")) 1
false_row_said Json row = printed_said (codes "{\"answer\":\"false\",\"row\":" ++ (decimal row ++ codes "}\n")) 1

-- the constraint behind a row that fails is true, and an auxiliary is wrong, or it is false
abbrev pub sentence_end : Bool → List ℕ
sentence_end true = codes " is true, but auxiliaries in the row are wrong\n"
sentence_end false = codes " is false\n"

abbrev pub answer_field : Bool → List ℕ
answer_field true = codes "auxiliaries"
answer_field false = codes "builtin"

-- a row that fails, and the constraint behind it
unfoldable pub fails_text : ℕ → List ℕ
fails_text row = codes "row " ++ (decimal row ++ codes " fails: ")

unfoldable pub fails_fields : ℕ → Bool → List ℕ
fails_fields row holds = codes "{\"answer\":\"" ++ (answer_field holds ++ (codes "\",\"row\":" ++ (decimal row ++ codes ",")))

abbrev pub reason_text : ℕ → Constraint → Bool → List ℕ
reason_text row c holds = fails_text row ++ (constraint_text c ++ sentence_end holds)

abbrev pub reason_json : ℕ → Constraint → Bool → List ℕ
reason_json row c holds = fails_fields row holds ++ (constraint_fields c ++ codes "}\n")

abbrev pub reason_said : Style → ℕ → Constraint → Bool → Said
reason_said Text row c holds = printed_said (reason_text row c holds) 1
reason_said Json row c holds = printed_said (reason_json row c holds) 1
