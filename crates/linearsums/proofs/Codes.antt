-- A number that no code has names no sum.
use Rattle.std.proofs.Common.{◌≡◌, sym, ℕ, ne_eqb}
use Rattle.integers.specs.Lists.{any}
use Rattle.models.specs.declared.code.Code.TheVariants as c
use Rattle.models.proofs.AllCodes.{Unknown}
use Rattle.linearsums.specs.Sum.{no_sum, form_of}

pub no-form : (code : ℕ) → Unknown code → form_of code ≡ no_sum
unfolding form_of any
no-form code h =
    rw (ne_eqb code 12 (λ e. h c.IntLinNe (sym e)), ne_eqb code 13 (λ e. h c.IntLinEqReif (sym e)), ne_eqb code 15 (λ e. h c.IntLinLeReif (sym e)), ne_eqb code 32 (λ e. h c.IntLinNeReif (sym e)), ne_eqb code 14 (λ e. h c.IntEqReif (sym e)), ne_eqb code 31 (λ e. h c.IntNeReif (sym e)))

pub ruleset no_form = (no-form)
