-- The word is there, and names a length.
use Rattle.modelitems.proofs.Inner.{a-length, a-short}
use Rattle.modelitems.proofs.items.past_length.Goals as goal

pub returns-clause-read : goal.returns-clause-read
returns-clause-read c ts d arg code k e l =
    rw (c.over.ensures, c.check_count.ensures, c.at.ensures) (a-length c.args.ws.now ts d c.args.at c.requires.within arg code k e l)

pub returns-clause-short : goal.returns-clause-short
returns-clause-short c = a-short _ c.requires (rw (c.check_count.ensures, c.at.ensures) at c.over.ensures)
