use Rattle.bitfilling.proofs.holds_variable.Goals as goal

pub returns : goal.returns
returns c = rw (c.bits_at-b.ensures.first, c.bits_at-b.ensures.count) at c.overlap.ensures
