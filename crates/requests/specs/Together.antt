-- Which options go together: the first of the rules that is broken.
use Rattle.std.specs.Prelude.{not, ◌&&◌, ◌||◌, ltb, Option, None, Some}
use Rattle.integers.specs.Choice.{◌if◌else◌}
use Rattle.requests.specs.declared.which.Which.{Which}
use Rattle.requests.specs.declared.wrong.Wrong.{Wrong}
use Rattle.requests.specs.declared.wrong.Wrong.TheVariants as w
use Rattle.requests.specs.declared.options.Flags.{Flags}
use Rattle.requests.specs.declared.options.Times.{Times}
use Rattle.requests.specs.declared.options.Named.{Named}
use Rattle.requests.specs.Taken.{takes_values, takes_candidates, prints_words}

-- an option that takes a word stands once; one way of reading
abbrev pub wrong_forms : Flags → Times → Option Wrong
wrong_forms f t =
    Some w.SecondValues if ltb 1 t.values
    else Some w.SecondData if ltb 1 t.data
    else Some w.SecondCandidate if ltb 1 t.candidate
    else Some w.Forms if (f.text && f.hex) || (f.text && f.bytes) || (f.hex && f.bytes)
    else None

-- options that exclude each other
abbrev pub wrong_options : Flags → Times → Named → Option Wrong
wrong_options f t n =
    Some w.Candidate if ltb 0 t.candidate && not n.known_candidate
    else Some w.ModelAndRows if f.model && f.rows
    else Some w.CandidateAndRows if ltb 0 t.candidate && f.rows
    else Some w.BytesAndJson if f.out_bytes && f.json
    else None

-- what a command does not take
abbrev pub wrong_with : Which → Flags → Times → Named → Option Wrong
wrong_with c f t n =
    Some w.NoFile if not n.file
    else Some w.TakesNoValues if not (takes_values c) && (n.values || ltb 0 t.values)
    else Some w.TakesNoCandidate if not (takes_candidates c) && ltb 0 t.candidate
    else Some w.PrintsNoWords if not (prints_words c) && f.out_bytes
    else Some w.SameInput if n.same_input
    else None

abbrev pub or_else : Option Wrong → Option Wrong → Option Wrong
or_else None other = other
or_else (Some wrong) other = Some wrong

abbrev pub first_wrong : Which → Flags → Times → Named → Option Wrong
first_wrong c f t n = or_else (wrong_forms f t) (or_else (wrong_options f t n) (wrong_with c f t n))
