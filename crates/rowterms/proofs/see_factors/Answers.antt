-- The three variables are declared, so that their values are there and known, and the product of two fits.
use Rattle.std.proofs.Common.{◌≡◌, ap, ◌∙◌, arith, ◌+◌, w64, to_z, of_z}
use Rattle.integers.specs.Terms.{value}
use Rattle.integers.proofs.Fits.{back}
use Rattle.words.specs.Word.{payload}
use Rattle.words.proofs.ReadBack.{factors-fit}
use Rattle.rowsystems.specs.Row.{satisfied}
use Rattle.rowsystems.specs.RowSystem.{variable_at}
use Rattle.rowterms.proofs.see_factors.Goals.{After-known_value-g}
use Rattle.rowterms.proofs.see_factors.Goals as goal

pub known_value-r-requires : goal.known_value-r-requires
unfolding variable_at
known_value-r-requires c =
    omega (arith, c.payload.ensures, ap payload c.at.ensures, c.in_ok-end.ensures.end.1.0, c.requires.1.0)

pub known_value-f-requires : goal.known_value-f-requires
unfolding variable_at
known_value-f-requires c =
    omega (arith, c.payload-2.ensures, ap payload c.at-2.ensures, c.in_ok-end.ensures.end.1.1, c.requires.1.0)

pub known_value-g-requires : goal.known_value-g-requires
unfolding variable_at
known_value-g-requires c =
    omega (arith, c.payload-3.ensures, ap payload c.at-3.ensures, c.in_ok-end.ensures.end.1.2, c.requires.1.0)

-- the values of the two factors
values : (c : After-known_value-g) → (to_z w64 (of_z w64 c.known_value-f.result) ≡ value c.args.values.now (variable_at c.args.ws.now (c.args.at + 1))) × (to_z w64 (of_z w64 c.known_value-g.result) ≡ value c.args.values.now (variable_at c.args.ws.now (c.args.at + 2)))
unfolding variable_at
values c = (
  back c.known_value-f.result c.known_value-f.type_inv ∙ c.known_value-f.ensures ∙ rw (c.payload-2.ensures, c.at-2.ensures),
  back c.known_value-g.result c.known_value-g.type_inv ∙ c.known_value-g.ensures ∙ rw (c.payload-3.ensures, c.at-3.ensures),
)

pub times-requires : goal.times-requires
times-requires c =
    let v = values (goal.at.times-requires c).After-known_value-g in
    let d = c.in_ok-end.ensures.end.1 in
    rw (v.0, v.1) (omega (arith, factors-fit (value c.args.values.now (variable_at c.args.ws.now (c.args.at + 1))) (value c.args.values.now (variable_at c.args.ws.now (c.args.at + 2))) (c.requires.1.1 _ d.1) (c.requires.1.1 _ d.2)))

pub returns-clause-truth : goal.returns-clause-truth
unfolding satisfied variable_at
returns-clause-truth c =
    let v = values (goal.at.returns-clause-truth c).After-known_value-g in
    c.equal-holds.ensures ∙ rw (back c.known_value-r.result c.known_value-r.type_inv, c.known_value-r.ensures, c.payload.ensures, c.at.ensures, back c.times.result c.times.type_inv, c.times.ensures.value, v.0, v.1)
