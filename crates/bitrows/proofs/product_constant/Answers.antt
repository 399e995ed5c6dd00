-- Each factor is given near 0.
use Rattle.std.proofs.Common.{refl, ap, ◌∙◌, arith}
use Rattle.integers.proofs.Fits.{back, mul-le}
use Rattle.arguments.proofs.Size.{read}
use Rattle.bitrows.proofs.Constant.{variable_below}
use Rattle.bitrows.proofs.product_constant.Goals as goal

pub lower-r-requires : goal.lower-r-requires
lower-r-requires g c = (c.requires _ (rw c.row_variable.ensures (variable_below c.args.args.now 0))).0

pub lower-f-requires : goal.lower-f-requires
lower-f-requires g c = (c.requires _ (rw c.row_variable-2.ensures (variable_below c.args.args.now 1))).0

pub lower-g-requires : goal.lower-g-requires
lower-g-requires g c = (c.requires _ (rw c.row_variable-3.ensures (variable_below c.args.args.now 2))).0

pub times-requires : goal.times-requires
times-requires g c =
    let f = (c.requires _ (rw c.row_variable-2.ensures (variable_below c.args.args.now 1))).1 _ c.lower-f.ensures in
    let h = (c.requires _ (rw c.row_variable-3.ensures (variable_below c.args.args.now 2))).1 _ c.lower-g.ensures in
    rw (back c.lower-f.result c.lower-f.type_inv, back c.lower-g.result c.lower-g.type_inv) (omega (arith, mul-le f h))

pub minus-requires : goal.minus-requires
minus-requires g c =
    let r = (c.requires _ (rw c.row_variable.ensures (variable_below c.args.args.now 0))).1 _ c.lower-r.ensures in
    let f = (c.requires _ (rw c.row_variable-2.ensures (variable_below c.args.args.now 1))).1 _ c.lower-f.ensures in
    let h = (c.requires _ (rw c.row_variable-3.ensures (variable_below c.args.args.now 2))).1 _ c.lower-g.ensures in
    let s = rw (back c.lower-f.result c.lower-f.type_inv, back c.lower-g.result c.lower-g.type_inv) at c.times.ensures.size in
    rw (back c.lower-r.result c.lower-r.type_inv, back c.times.result c.times.type_inv) (omega (arith, mul-le f h, s, r))

pub returns : goal.returns
returns g c σ p =
    let r = read c.lower-r.type_inv (p _ _ (rw c.row_variable.ensures (variable_below c.args.args.now 0)) c.lower-r.ensures) ∙ ap σ c.row_variable.ensures in
    let f = read c.lower-f.type_inv (p _ _ (rw c.row_variable-2.ensures (variable_below c.args.args.now 1)) c.lower-f.ensures) ∙ ap σ c.row_variable-2.ensures in
    let h = read c.lower-g.type_inv (p _ _ (rw c.row_variable-3.ensures (variable_below c.args.args.now 2)) c.lower-g.ensures) ∙ ap σ c.row_variable-3.ensures in
    read c.minus.type_inv c.minus.ensures.value ∙ rw (r, read c.times.type_inv c.times.ensures.value, f, h) refl
