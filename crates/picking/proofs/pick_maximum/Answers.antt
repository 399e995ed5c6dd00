-- The place of the first element that is m.
use Rattle.std.proofs.Common.{◌≡◌, ◌++◌, [], ◌+◌, arith}
use Rattle.integers.specs.Number.{◌≟◌, +1}
use Rattle.integers.specs.Terms.{value}
use Rattle.integers.proofs.Fits.{back}
use Rattle.models.specs.Model.{var, size, vars, builtin, builtins}
use Rattle.arguments.proofs.Size.{size-le}
use Rattle.rules.specs.Pick.{gated_pick, pick}
use Rattle.picking.specs.Only.{only_at}
use Rattle.picking.proofs.Codes.{maximum-picks}
use Rattle.picking.proofs.pick_maximum.Goals.{After-first_equal-h}
use Rattle.picking.proofs.pick_maximum.Goals as goal

picks : (c : After-first_equal-h) → let a = c.args in let σ = value a.near.now.instance.values.now in let ws = a.near.now.instance.args.now in
    gated_pick σ (λ x. σ x ≟ σ (var ws 0)) (vars ws 1) ≡ only_at (size ws 1) c.first_equal-h.result +1 ++ only_at (size ws 1) c.first_equal-h.result (σ (var ws (2 + c.first_equal-h.result)))
picks c =
    maximum-picks [] c.args.near.now.instance c.first_equal-h.result (rw (back c.value.result c.value.type_inv, c.value.ensures.value) at c.first_equal-h.ensures.first)

pub gated-requires : goal.gated-requires
unfolding pick builtin builtins
gated-requires c =
    (omega (arith, c.requires.place, c.size_at.ensures.value, size-le c.args.near.now.instance.args.now 1), rw (back c.value-2.result c.value-2.type_inv, c.value-2.ensures.value, c.size_at.ensures.value) (rw (picks (goal.at.gated-requires c).After-first_equal-h) at c.requires.ranged))

pub returns : goal.returns
unfolding pick builtin builtins
returns c =
    rw (picks (goal.at.returns c).After-first_equal-h) (rw (back c.value-2.result c.value-2.type_inv, c.value-2.ensures.value, c.size_at.ensures.value) at c.gated.ensures)
