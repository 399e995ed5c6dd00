use Rattle.std.proofs.Common.{◌∙◌, ◌/◌, to_z-of_z}
use Rattle.integers.proofs.Fits.{back}
use Rattle.builtins.proofs.CutPower.{cut_fits, near_fits, cut-one, cut-square, cut_even, cut-odd}
use Rattle.builtins.proofs.power.+power_of.Goals as goal

pub returns-then-k-lt2 : goal.returns-then-k-lt2
returns-then-k-lt2 t c =
    to_z-of_z c.ranges.x ∙ cut-one c.args.x c.args.k c.requires.0 c.requires.1 c.if-k-lt2.true

pub times-requires : goal.times-requires
times-requires t c =
    rw (back c.power_of-half.result c.power_of-half.type_inv) (cut_fits c.power_of-half.result c.power_of-half.result _ _ c.power_of-half.ensures c.power_of-half.ensures)

pub returns-then-k-eq0 : goal.returns-then-k-eq0
returns-then-k-eq0 t c =
    let h = rw (to_z-of_z c.ranges.x) at c.power_of-half.ensures in
    back c.cut_to-square.result c.cut_to-square.type_inv
    ∙ c.cut_to-square.ensures
    ∙ rw (back c.times.result c.times.type_inv, c.times.ensures.value, back c.power_of-half.result c.power_of-half.type_inv) (cut_even c.args.x c.args.k c.power_of-half.result h c.if-k-eq0.true)

pub times-requires-2 : goal.times-requires-2
times-requires-2 t c =
    let h = rw (to_z-of_z c.ranges.x) at c.power_of-half.ensures in
    let e = rw (back c.times.result c.times.type_inv, c.times.ensures.value, back c.power_of-half.result c.power_of-half.type_inv) at c.cut_to-square.ensures ∙ cut-square c.args.x (c.args.k / 2) c.power_of-half.result h in
    rw (to_z-of_z c.ranges.x, back c.cut_to-square.result c.cut_to-square.type_inv) (near_fits c.args.x c.cut_to-square.result _ c.requires.0 e)

pub returns : goal.returns
returns t c =
    let h = rw (to_z-of_z c.ranges.x) at c.power_of-half.ensures in
    let e = rw (back c.times.result c.times.type_inv, c.times.ensures.value, back c.power_of-half.result c.power_of-half.type_inv) at c.cut_to-square.ensures ∙ cut-square c.args.x (c.args.k / 2) c.power_of-half.result h in
    back c.cut_to.result c.cut_to.type_inv
    ∙ c.cut_to.ensures
    ∙ rw (back c.times-2.result c.times-2.type_inv, c.times-2.ensures.value, to_z-of_z c.ranges.x, back c.cut_to-square.result c.cut_to-square.type_inv) (cut-odd c.args.x c.args.k c.cut_to-square.result c.requires.0 e c.if-k-eq0.false)
