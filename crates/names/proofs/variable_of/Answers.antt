use Rattle.std.proofs.Common.{◌≡◌, sym, ap, ◌∙◌, eqb, arith, rules}
use Rattle.tokens.specs.Sorts.{sort_number}
use Rattle.tokens.specs.Unread.{spanned}
use Rattle.names.specs.Name.{same}
use Rattle.names.proofs.Names.{look_end, look_past, look_here, look_on, look_over}
use Rattle.names.proofs.variable_of.Goals as goal
use Rattle.names.proofs.variable_of.Goals.{then-after_colon+else-eq, else-after_colon}

pub returns-then-place-token : goal.returns-then-place-token
unfolding spanned
returns-then-place-token c =
    sym (c.loop-token.invariant.2 ∙ look_past _ _ _ _ (spanned c.args.text.now c.in-Some.token) c.in-Some.ensures.found c.if-place-token.true)

pub returns-then-eq : goal.returns-then-eq
unfolding spanned
returns-then-eq c =
    let e = ap (same c.args.name.now) (sym c.bytes.ensures) ∙ sym c.eq.ensures ∙ c.if-eq.true in
    let i = rw c.if-after_colon.true at c.loop-token.invariant.2 in
    sym (i ∙ look_here c.args.name.now _ _ (spanned c.args.text.now c.in-Some.token) c.in-Some.ensures.found c.if-place-token.false e)

pub loop-token-preserved : goal.loop-token-preserved
unfolding spanned
loop-token-preserved c =
    let name = c.args.name.now in
    let token = spanned c.args.text.now c.in-Some.token in
    let m = c.in-Some.ensures in
    let colon : c.eq-after_colon.result ≡ eqb (sort_number c.in-Some.token.sort) 58 = search rules in
    elim c.if-after_colon.branch [
      | then-after_colon+else-eq w ↦ (
        m.inside,
        omega (arith, w.variable-is, c.loop-token.invariant.1, m.longer, m.onward),
        rw (colon, w.variable-is) ((rw w.if-after_colon.true at c.loop-token.invariant.2) ∙ look_on name _ _ token m.found c.if-place-token.false (ap (same name) (sym w.bytes.ensures) ∙ sym w.eq.ensures ∙ w.if-eq.false)),
      )
      | else-after_colon w ↦ (
        m.inside,
        omega (arith, w.variable-is, c.loop-token.invariant.1, m.longer, m.onward),
        rw (colon, w.variable-is) ((rw w.if-after_colon.false at c.loop-token.invariant.2) ∙ look_over name _ _ token m.found c.if-place-token.false),
      )
    ]

pub returns : goal.returns
returns c = sym (c.loop-token.invariant.2 ∙ look_end _ _ _ _ c.in_default.ensures)
