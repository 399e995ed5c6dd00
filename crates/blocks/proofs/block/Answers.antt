-- A block has few words, so that there is room for their counts.
use Rattle.std.proofs.Common.{◌≤◌, arith, rules}
use Rattle.integers.specs.Bounds.{bounds_in}
use Rattle.models.specs.Codes.{code_number}
use Rattle.encodings.specs.Uses.{shared_by}
use Rattle.laying.specs.Part.{block_parts, size_in}
use Rattle.laying.specs.Sizes.{block_size}
use Rattle.blocks.specs.Coded.{constraint_of, block_by}
use Rattle.blocks.proofs.OneBlock.{few_parts, grown}
use Rattle.blocks.proofs.block.Goals as goal

pub returns-clause-parts : goal.returns-clause-parts
returns-clause-parts c =
    let k = c.args.context.now in
    let x = c.args.constraint.now in
    let few : size_in (block_parts k.first (block_by k x)) ≤ block_size = few_parts k.first (bounds_in k.domains.now) (shared_by k.uses.now) k.encoded.now (constraint_of (code_number x.code) x.args.now) c.requires.0 in
    let w = rw c.none_yet.ensures at c.write_block.ensures.parts (omega (arith, few, c.none_yet.ensures)) in
    search (rules, w)

pub returns-clause-size : goal.returns-clause-size
returns-clause-size c =
    let k = c.args.context.now in
    let x = c.args.constraint.now in
    let few : size_in (block_parts k.first (block_by k x)) ≤ block_size = few_parts k.first (bounds_in k.domains.now) (shared_by k.uses.now) k.encoded.now (constraint_of (code_number x.code) x.args.now) c.requires.0 in
    let w = rw c.none_yet.ensures at c.write_block.ensures.parts (omega (arith, few, c.none_yet.ensures)) in
    grown k.first (block_by k x) few w
