-- What each command takes besides a model, and whether it prints words.
use Rattle.std.specs.Prelude.{Bool, true, false, List, ℕ, codes}
use Rattle.requests.specs.declared.which.Which.{Which}
use Rattle.requests.specs.declared.which.Which.TheVariants as w

abbrev pub name_of : Which → List ℕ
name_of w.Check = codes "check"
name_of w.Translate = codes "translate"
name_of w.Rows = codes "rows"
name_of w.Sheet = codes "sheet"
name_of w.Judge = codes "judge"
name_of w.Fill = codes "fill"
name_of w.Reason = codes "reason"
name_of w.Solutions = codes "solutions"
name_of w.Bits = codes "bits"
name_of w.Text = codes "text"

-- values of variables
abbrev pub takes_values : Which → Bool
takes_values w.Check = false
takes_values w.Translate = false
takes_values w.Rows = false
takes_values w.Sheet = false
takes_values w.Judge = true
takes_values w.Fill = true
takes_values w.Reason = true
takes_values w.Solutions = false
takes_values w.Bits = false
takes_values w.Text = false

-- one of two candidates over one variable table
abbrev pub takes_candidates : Which → Bool
takes_candidates w.Check = true
takes_candidates w.Translate = true
takes_candidates w.Rows = true
takes_candidates w.Sheet = true
takes_candidates w.Judge = true
takes_candidates w.Fill = true
takes_candidates w.Reason = false
takes_candidates w.Solutions = false
takes_candidates w.Bits = true
takes_candidates w.Text = false

-- the words of a row system
abbrev pub takes_rows : Which → Bool
takes_rows w.Check = true
takes_rows w.Translate = false
takes_rows w.Rows = true
takes_rows w.Sheet = true
takes_rows w.Judge = true
takes_rows w.Fill = false
takes_rows w.Reason = false
takes_rows w.Solutions = false
takes_rows w.Bits = true
takes_rows w.Text = true

-- words on standard output
abbrev pub prints_words : Which → Bool
prints_words w.Check = false
prints_words w.Translate = true
prints_words w.Rows = false
prints_words w.Sheet = false
prints_words w.Judge = false
prints_words w.Fill = false
prints_words w.Reason = false
prints_words w.Solutions = false
prints_words w.Bits = true
prints_words w.Text = true
