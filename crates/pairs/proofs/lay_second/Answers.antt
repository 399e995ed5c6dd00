-- The table, then the words after the place.
use Rattle.std.proofs.Common.{sym, ◌∙◌, ◌+◌}
use Rattle.words.proofs.Reading.{tail-is}
use Rattle.pairs.proofs.Models.{second-laid, table-length}
use Rattle.pairs.proofs.lay_second.Goals as goal

pub returns : goal.returns
returns c =
    c.lay-2.ensures ∙ rw (tail-is c.args.ws.now (c.args.d + 1), c.lay.ensures, c.requires.0, c.requires.2) (second-laid c.args.ws.now c.args.out.now)

pub slice_bounds-lay-end : goal.slice_bounds-lay-end
slice_bounds-lay-end c = rw c.requires.2 (sym (table-length c.args.ws.now))
