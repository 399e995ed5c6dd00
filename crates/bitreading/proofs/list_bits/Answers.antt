-- The lists of the variables' bits are those of the row system.
use Rattle.std.proofs.Common.{ap, ◌∙◌, ◌≤◌, length}
use Rattle.words.specs.Overlay.{overlay}
use Rattle.words.specs.Variables.{variables}
use Rattle.rowsystems.proofs.FewVariables.{few-variables}
use Rattle.bittables.specs.BitTables.{firsts, counts}
use Rattle.bitreading.proofs.Room.{room-for}
use Rattle.bitreading.proofs.Listed.{Kept, all-kept, tables-kept, words_few, start_near, listed}
use Rattle.bitreading.proofs.list_bits.Goals.{After-keep_bits-start}
use Rattle.bitreading.proofs.list_bits.Goals as goal

room : (c : After-keep_bits-start) → length (variables c.args.ws.now) ≤ length c.args.domains.now
room c = room-for c.args.ws.now (length c.args.domains.now) c.requires.reads c.requires.room

kept : (c : After-keep_bits-start) →
    Kept (length c.args.domains.now) c.args.ws.now c.keep_bounds-variables.new.domains (firsts c.keep_bits-start.new.bits) (counts c.keep_bits-start.new.bits) c.keep_bits-start.result
kept c =
    let e = c.keep_bounds-variables.ensures.kept ∙ ap (λ l. overlay l 0 (variables c.args.ws.now)) c.requires.no_domains in
    all-kept (length c.args.domains.now) c.args.ws.now c.requires.reads (room c) e c.keep_bounds-variables.ensures.count (rw (c.requires.no_bits.0, c.requires.no_bits.1) at c.keep_bits-start.ensures)

pub keep_bits-start-requires : goal.keep_bits-start-requires
keep_bits-start-requires c =
    rw c.keep_bounds-variables.ensures.count (few-variables c.args.ws.now c.requires.reads)

pub count_bits-requires : goal.count_bits-requires
count_bits-requires c =
    let a = (goal.at.count_bits-requires c).After-keep_bits-start in
    let k = kept a in
    let n = length c.args.domains.now in
    let r = c.requires.reads in
    (words_few c.args.ws.now r, (tables-kept n c.args.ws.now r (room a) k).counted, start_near n c.args.ws.now r (room a) k)

pub returns : goal.returns
returns c =
    let a = (goal.at.returns c).After-keep_bits-start in
    listed (length c.args.domains.now) c.args.ws.now c.requires.reads (room a) (kept a) c.keep_bounds-variables.ensures.count c.count_bits.ensures
