use Rattle.std.proofs.Common.{◌≡◌, refl, rules, arith, length, to_z-of_z}
use Rattle.integers.proofs.Fits.{back}
use Rattle.laying.specs.Lists.{row_parts_of}
use Rattle.laying.proofs.Counts.{coefficient-at, sized_row}
use Rattle.laying.proofs.Written.{wrote-then, wrote-counted, writing-none, writing-more}
use Rattle.laying.proofs.Writer.row.Goals as goal

pub returns-then-self : goal.returns-then-self
returns-then-self c =
    wrote-counted (sized_row _ c.args.terms.now c.args.c) (omega arith, omega arith, omega arith) c.if-self.true
    (rw (c.all_fit.ensures (coefficient-at c.args.terms.now) (λ k r h p. search rules), c.in_range.ensures, to_z-of_z c.ranges.c) at c.count.ensures.counts) c.count.ensures.same

pub loop-term-init : goal.loop-term-init
loop-term-init c = writing-none _ _

pub loop-term-preserved : goal.loop-term-preserved
loop-term-preserved c = writing-more c.loop-term.invariant (rw (back c.number.result c.number.type_inv, c.number.ensures) at c.term.ensures)

pub returns : goal.returns
unfolding row_parts_of
returns c =
    let all : c.loop-term.term-index ≡ length c.args.terms.now = omega (arith, c.loop-term-test.false, c.loop-term.auto.term-index-end) in
    let went = wrote-then c.head.ensures (wrote-then (rw all at c.loop-term.invariant.went) (rw (to_z-of_z c.ranges.c) at c.constant.ensures)) in
    record { parts = λ h. let parts = went.parts h in search (rules, parts, went.list); list = refl }
