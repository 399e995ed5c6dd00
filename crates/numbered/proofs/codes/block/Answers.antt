-- A number that no builtin has gets the block of int_eq(0,0).
use Rattle.std.proofs.Common.{sym}
use Rattle.integers.specs.Bounds.{bounds_in}
use Rattle.encodings.specs.Uses.{shared_by}
use Rattle.numbered.proofs.NoCode.{same-block, none-layable}
use Rattle.numbered.proofs.codes.block.Goals as goal

pub block-requires : goal.block-requires
block-requires c = rw (sym c.in-Ok.ensures) at c.requires

pub returns-in-Ok : goal.returns-in-Ok
returns-in-Ok c = rw c.in-Ok.ensures at c.block.ensures

pub block-requires-in-Err : goal.block-requires-in-Err
block-requires-in-Err c = none-layable c.args.context.now c.requires.1.fits

pub returns-in-Err : goal.returns-in-Err
returns-in-Err c =
    let k = c.args.context.now in
    rw (← same-block (bounds_in k.domains.now) (shared_by k.uses.now) k.encoded.now c.args.code c.args.args.now c.in-Err.ensures.1) c.block-in-Err.ensures
