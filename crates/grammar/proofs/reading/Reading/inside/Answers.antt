-- A token that does not fit, and an element with a fault.
use Rattle.std.proofs.Common.{rules, ◌≡◌, true, eqb, refl, sym, ap, ◌∙◌, eq-eqb}
use denote.Enum.Bare.{same_true}
use Rattle.std.proofs.lemmas.Result.{err_from_is_err_and}
use Rattle.tokens.specs.contracts.sort.Sort.{the_type}
use Rattle.tokens.specs.Sorts.{sort_number}
use Rattle.tokens.specs.Unread.{spanned}
use Rattle.grammar.specs.Grammar.{step, fitting, gives, Inside}
use Rattle.grammar.specs.Machine.{element_of, closing_of}
use Rattle.grammar.proofs.reading.Reading.inside.Goals as goal

pub returns-then-not-fits_inside : goal.returns-then-not-fits_inside
unfolding step fitting gives spanned
returns-then-not-fits_inside c = λ d k n. rw (sym c.fits_inside.ensures ∙ c.if-not-fits_inside.true) refl

pub returns-in_err-word : goal.returns-in_err-word
unfolding step spanned
returns-in_err-word c =
    let p = err_from_is_err_and c.from_residual.result c.from_residual.ensures.1 in
    let same : c.args.self.now.token.sort ≡ c.element.result = same_true the_type (search rules) _ _ (sym c.eq.ensures ∙ c.if-eq.true) in
    let one : eqb (sort_number c.args.self.now.token.sort) (element_of c.args.bracketed) ≡ true = eq-eqb _ _ (ap sort_number same ∙ c.element.ensures) in
    rw (p.1, p.2) (λ d k n. rw (sym c.fits_inside.ensures ∙ c.if-not-fits_inside.false, one) (c.in_err-word.ensures (Inside d k n (element_of c.args.bracketed) (closing_of c.args.bracketed) (element_of c.args.bracketed))))
