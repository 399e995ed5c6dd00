use Rattle.bitwriting.proofs.is_bit_of.Goals as goal

pub returns : goal.returns
returns c = rw (c.bits_at-b.ensures.first, c.bits_at-b.ensures.count) at c.is_among.ensures
