-- Link by link.
use Rattle.std.proofs.Common.{refl, sym, ap, ◌∙◌, ℕ, ◌+◌, ◌-◌, ◌*◌, ◌<◌, ◌≡◌, arith}
use Rattle.symbols.specs.Links.{first_link, next_link, side}
use Rattle.symbols.proofs.Walk.{same-equal, begin, next, onward, ends, falls}
use Rattle.symbols.proofs.tree.Tree.slot_of.Goals as goal

pub loop-v-init : goal.loop-v-init
loop-v-init c = begin c.requires c.args.name.now _ _ (c.first_link-link.ensures.0 ∙ ap first_link c.hash_of-h.ensures) c.first_link-link.ensures.1 refl

pub is_named-requires : goal.is_named-requires
is_named-requires c =
    let l : c.loop-v.v - 1 < c.args.self.now.count = omega (arith, c.loop-v.invariant.fits, c.loop-v-test.true) in
    record { inside = c.requires.inside (c.loop-v.v - 1) l; tagged = c.requires.tagged (c.loop-v.v - 1) l; hashed = c.hash_of-h.ensures }

pub returns-then-is_named : goal.returns-then-is_named
returns-then-is_named c = (omega (arith, c.loop-v.invariant.fits, c.loop-v-test.true), same-equal _ _ (sym c.is_named.ensures ∙ c.if-is_named.true))

pub loop-v-preserved : goal.loop-v-preserved
loop-v-preserved c =
    let e : 8192 + 2 * (c.loop-v.v - 1) + c.side.result ≡ next_link c.args.name.now c.loop-v.depth c.loop-v.v =
    ap (λ (n : ℕ). 8192 + 2 * (c.loop-v.v - 1) + n) (c.side.ensures.0 ∙ ap (λ (h : ℕ). side h c.args.name.now c.loop-v.depth) c.hash_of-h.ensures) in
    next c.requires c.args.name.now c.loop-v.invariant c.loop-v-test.true (sym c.is_named.ensures ∙ c.if-is_named.false) _ _ e refl

pub loop-v-smaller : goal.loop-v-smaller
loop-v-smaller c =
    let e : 8192 + 2 * (c.loop-v.v - 1) + c.side.result ≡ next_link c.args.name.now c.loop-v.depth c.loop-v.v =
    ap (λ (n : ℕ). 8192 + 2 * (c.loop-v.v - 1) + n) (c.side.ensures.0 ∙ ap (λ (h : ℕ). side h c.args.name.now c.loop-v.depth) c.hash_of-h.ensures) in
    falls c.loop-v.v _ c.loop-v-test.true (omega (arith, c.loop-v.invariant.fits, c.requires.few, c.requires.room.few)) (onward c.requires c.args.name.now c.loop-v.invariant c.loop-v-test.true _ _ e refl)

pub returns : goal.returns
returns c = ends c.requires c.args.name.now c.loop-v.invariant c.loop-v-test.false
