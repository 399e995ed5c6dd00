use Rattle.std.proofs.Common.{◌≡◌, arith, get_or}
use Rattle.models.specs.Model.{headed}
use Rattle.modelreading.proofs.Heads.{head_at}
use Rattle.rules.specs.Shared.{encodes}
use Rattle.encodings.specs.Uses.{choice_of, counted}
use Rattle.encodings.proofs.Uses.{begun, more, none_counted, done}
use Rattle.encodings.proofs.count_uses.Goals.{in-Some, in_default}
use Rattle.encodings.proofs.count_uses.Goals as goal

pub loop-place-init : goal.loop-place-init
loop-place-init c = begun _ c.requires.2

pub loop-place-preserved : goal.loop-place-preserved
loop-place-preserved c =
    let k = c.loop-place.place-index in
    let h = headed c.args.ws.now (get_or c.args.heads.now k 0) in
    let e : c.match-at.uses ≡ counted c.loop-place.uses (encodes (choice_of h.code h.arguments)) =
    elim c.match-at.branch [
      | in-Some w ↦ rw (w.uses-is, ← w.in-Some.ensures.0, ← w.in-Some.ensures.1) w.count_use.ensures
      | in_default w ↦ rw w.uses-is (none_counted c.loop-place.uses h.arguments w.in_default.ensures)
    ] in
    more c.loop-place.invariant (head_at c.requires.1 k c.loop-place-test.true) e

pub returns : goal.returns
returns c = done c.loop-place.invariant (omega (arith, c.loop-place-test.false, c.requires.1.counted))
