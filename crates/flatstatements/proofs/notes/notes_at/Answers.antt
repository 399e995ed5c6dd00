-- The annotations are a front of the tokens from the place on.
use Rattle.std.proofs.Common.{◌+◌, sym, ap, ◌∙◌, subst, List, map, take, drop}
use Rattle.std.proofs.lemmas.Result.{err_from_is_err_and}
use Rattle.std.proofs.lemmas.List.{drop-drop}
use Rattle.flatzinc.specs.Answer.{Fails}
use Rattle.flattokens.specs.Token.{Token, token}
use Rattle.flatstatements.specs.Reading.{notes_length}
use Rattle.flatstatements.specs.declared.notes.Place.TheVariants.{Between}
use Rattle.flatstatements.proofs.Noted.{noted, notes_fail}
use Rattle.flatstatements.proofs.notes.notes_at.Goals as goal

pub returns-in_err-count : goal.returns-in_err-count
returns-in_err-count c =
    let ts = c.args.tokens.now in
    let at = c.args.at in
    let seen = c.rest_at-rest.ensures in
    let p = err_from_is_err_and c.from_residual.result c.from_residual.ensures.1 in
    rw (p.1, p.2) (notes_fail c.in_err-count.field-0.0 (drop at (map token ts)) (subst (λ (xs : List Token). Fails c.in_err-count.field-0.0 (notes_length Between xs)) seen c.in_err-count.ensures.read))

pub returns : goal.returns
returns c =
    let ts = c.args.tokens.now in
    let at = c.args.at in
    let n = c.in_ok-count.count in
    let seen = c.rest_at-rest.ensures in
    noted (drop at (map token ts)) (map token c.in_ok-notes.notes.items) (drop (at + n) (map token ts)) n
    (sym (ap (notes_length Between) seen) ∙ c.in_ok-count.ensures.read)
    (c.in_ok-notes.ensures ∙ ap (take n) seen)
    (sym (drop-drop n at (map token ts)))
