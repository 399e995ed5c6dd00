use Rattle.std.proofs.Common.{◌≡◌, sym, ◌∙◌, arith, get_or, to_z-of_z}
use Rattle.variables.specs.Start.{starts}
use Rattle.variables.proofs.Walk.{count_none, count-one, none_left, keep-none, keep_one, break_one, keep_all, at_last}
use Rattle.variables.proofs.first_out_of_bounds.Goals.{After-starts_variable, then-starts_variable+else-not-keeps, else-starts_variable}
use Rattle.variables.proofs.first_out_of_bounds.Goals as goal

-- what the tests say of the word, and of its variable
said : (c : After-starts_variable) → starts (get_or c.args.ws.now c.loop-at.at 0) ≡ c.starts_variable.result
said c = rw c.from-head.ensures at (sym c.starts_variable.ensures)

pub returns-then-not-keeps : goal.returns-then-not-keeps
returns-then-not-keeps c =
    break_one c.loop-at.invariant.0 c.loop-at-test.true (said (goal.at.returns-then-not-keeps c).After-starts_variable ∙ c.if-starts_variable.true)
    (rw (to_z-of_z (record { sfits = c.value_at.type_inv }), c.value_at.ensures, c.at.ensures, c.from-head.ensures) at (sym c.keeps.ensures) ∙ c.if-not-keeps.true)

pub loop-at-preserved : goal.loop-at-preserved
loop-at-preserved c =
    let e = said (goal.at.loop-at-preserved c).After-starts_variable in
    elim c.if-starts_variable.branch [
      | then-starts_variable+else-not-keeps w ↦
          let t = e ∙ w.if-starts_variable.true in
          let k = rw (to_z-of_z (record { sfits = w.value_at.type_inv }), w.value_at.ensures, w.at.ensures, c.from-head.ensures) at (sym w.keeps.ensures) ∙ w.if-not-keeps.false in
          rw w.x-is (keep_one c.loop-at.invariant.0 c.loop-at-test.true t k, count-one c.loop-at.invariant.1 c.loop-at-test.true t)
      | else-starts_variable w ↦
          let t = e ∙ w.if-starts_variable.false in
          rw w.x-is (keep-none c.loop-at.invariant.0 c.loop-at-test.true t, count_none c.loop-at.invariant.1 c.loop-at-test.true t)
    ]

pub returns-after-loop-at : goal.returns-after-loop-at
returns-after-loop-at c = keep_all c.loop-at.invariant.0 (at_last _ _ c.loop-at-test.false)

pub returns-then-values-x : goal.returns-then-values-x
returns-then-values-x c = keep_all c.loop-at.invariant.0 (none_left c.loop-at.invariant.1 (omega (arith, c.loop-at.invariant.1.number, c.requires)))
