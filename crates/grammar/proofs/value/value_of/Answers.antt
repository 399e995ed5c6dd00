-- With a hyphen and without.
use Rattle.std.proofs.Common.{◌∙◌, ap, sym, drop}
use Rattle.grammar.specs.Value.{digits_from}
use Rattle.grammar.proofs.Numbers.{ranged, plain, negated, after_hyphen, without_hyphen}
use Rattle.grammar.proofs.value.value_of.Goals as goal

pub returns-in-Some : goal.returns-in-Some
returns-in-Some c =
    let h = c.in-Some.ensures in
    c.within_range.ensures
    ∙ negated (digits_from 0 (drop 1 c.args.spelling.now)) (rw h.cases.1 at c.decimal_of.ensures.value)
    ∙ ap ranged (sym (after_hyphen c.args.spelling.now h.cases.0))

pub returns : goal.returns
returns c =
    let h = c.in_default.ensures in
    c.within_range-2.ensures ∙ plain (digits_from 0 c.args.spelling.now) c.decimal_of-2.ensures.value ∙ ap ranged (sym (without_hyphen c.args.spelling.now h.cases))
