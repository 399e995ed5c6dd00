-- What a refusal says, of a file of a name; its status is 2.
use Rattle.std.specs.Prelude.{List, [], ◌++◌, ℕ, codes, decimal}
use Rattle.words.specs.Faults.{fault_number}
use Rattle.words.specs.declared.fault.Refusal.{Refusal}
use Rattle.answers.specs.declared.Style.{Style}
use Rattle.answers.specs.declared.Style.TheVariants as style
use Rattle.answers.specs.declared.refusals.Place.{Place}
use Rattle.answers.specs.declared.refusals.Place.TheVariants.{Nowhere, Word, Bit, Text}
use Rattle.answers.specs.Escaped.{json_text, shown_token}
use Rattle.answers.specs.FaultText.{fault_text}
use Rattle.answers.specs.Said.{Said, printed_said, complained_said}

-- the place in a sentence
abbrev pub place_text : ℕ → Place → List ℕ
place_text at Nowhere = []
place_text at Word = codes " at word " ++ decimal at
place_text at Bit = codes " at bit " ++ decimal at
place_text at (Text line column token) = codes " at line " ++ (decimal line ++ (codes ", column " ++ (decimal column ++ shown_token token.now)))

-- its fields in an object of JSON
abbrev pub place_fields : Place → List ℕ
place_fields Nowhere = []
place_fields Word = []
place_fields Bit = []
place_fields (Text line column token) = codes ",\"line\":" ++ (decimal line ++ (codes ",\"column\":" ++ (decimal column ++ (codes ",\"token\":" ++ json_text token.now))))

-- what stands before the place, and after it
unfoldable pub front_text : List ℕ → Refusal → List ℕ
front_text name r = codes "pearrummy: " ++ (name ++ (codes ": fault " ++ decimal (fault_number r.fault)))

unfoldable pub end_text : Refusal → List ℕ
end_text r = codes ": " ++ (fault_text r.fault ++ codes "\n")

unfoldable pub front_fields : Refusal → List ℕ
front_fields r = codes "{\"answer\":\"refused\",\"fault\":" ++ (decimal (fault_number r.fault) ++ (codes ",\"place\":" ++ (decimal r.place ++ (codes ",\"text\":\"" ++ (fault_text r.fault ++ codes "\"")))))

abbrev pub refusal_text : List ℕ → Refusal → Place → List ℕ
refusal_text name r place = front_text name r ++ (place_text r.place place ++ end_text r)

abbrev pub refusal_json : Refusal → Place → List ℕ
refusal_json r place = front_fields r ++ (place_fields place ++ codes "}\n")

abbrev pub refusal_said : Style → List ℕ → Refusal → Place → Said
refusal_said style.Text name r place = complained_said (refusal_text name r place) 2
refusal_said style.Json name r place = printed_said (refusal_json r place) 2
