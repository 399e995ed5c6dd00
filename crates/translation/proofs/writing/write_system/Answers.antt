-- Three lists laid one after the other: the words of the variables, the blocks, the end word.
use Rattle.std.proofs.Common.{◌≡◌, sym, ap, ◌∙◌, arith, length, length-take-le}
use Rattle.words.proofs.Overlay.{length-overlay}
use Rattle.modelreading.proofs.Heads.{front-inside, front-words}
use Rattle.translation.proofs.Refusals.{system-length, system-over}
use Rattle.translation.proofs.writing.write_system.Goals.{After-lay}
use Rattle.translation.proofs.writing.write_system.Goals as goal

same-room : (c : After-lay) → length c.lay.new.out ≡ length c.args.out.now
same-room c = ap length c.lay.ensures ∙ length-overlay _ _ _

pub write_blocks-at-requires : goal.write_blocks-at-requires
write_blocks-at-requires c =
    (c.requires.0, c.requires.1, rw (same-room (goal.at.write_blocks-at-requires c).After-lay) (omega (arith, system-length c.args.read.now.ws.now, c.requires.2)))

pub returns : goal.returns
returns c =
    c.lay-2.ensures ∙ rw (c.write_blocks-at.ensures.output, c.write_blocks-at.ensures.end, c.lay.ensures, c.bits.ensures, c.new.ensures, front-words c.requires.0.0.seen) (system-over c.args.read.now.ws.now c.args.out.now)

pub slice_bounds-lay-end : goal.slice_bounds-lay-end
slice_bounds-lay-end c = sym (length-take-le _ _ (front-inside c.requires.0.0.seen))
