-- The lists of the variables' bits are those of the row system.
use Rattle.std.proofs.Common.{refl, arith}
use lib.ListN.{length-replicate}
use Rattle.integers.specs.declared.Bounds.{Bounds}
use Rattle.bitlines.specs.Dense.{peak}
use Rattle.bitreading.proofs.Room.{domains-none, bits-none}
use Rattle.bitform.proofs.Answers.{too_many, taken-once}
use Rattle.bitform.proofs.form_within.Goals as goal

pub list_bits-listed-requires-clause-room : goal.list_bits-listed-requires-clause-room
list_bits-listed-requires-clause-room g c = rw (length-replicate {A = Bounds} g.row.N c.new-domains.result) c.requires.room.0

pub list_bits-listed-requires-clause-no_domains : goal.list_bits-listed-requires-clause-no_domains
list_bits-listed-requires-clause-no_domains g c = domains-none g.row.N refl c.new-domains.ensures

pub list_bits-listed-requires-clause-no_bits : goal.list_bits-listed-requires-clause-no_bits
list_bits-listed-requires-clause-no_bits g c = bits-none c.new-domains.result g.row.N refl

pub returns-then-n-gt-BITS : goal.returns-then-n-gt-BITS
returns-then-n-gt-BITS g c = too_many c.args.ws.now c.args.out.now c.requires.reads (omega (arith, c.list_bits-listed.ensures.same_count, c.if-n-gt-BITS.true))

pub form_listed-requires : goal.form_listed-requires
form_listed-requires g c =
    let k = c.list_bits-listed.ensures in
    let s = c.system_of-system.ensures in
    record { read = rw s.0 c.requires.reads; rows_are = rw (s.0, s.1, s.2, s.3) k.same_rows; count = rw s.0 k.same_count; few = c.if-n-gt-BITS.false }

pub invariant_of-taken : goal.invariant_of-taken
unfolding peak
invariant_of-taken g c = record { near = record { near_times = record { positive = record { lt = tt }; few = omega arith }; near_constant = omega arith; near_added = omega arith } }

pub returns : goal.returns
returns g c =
    taken-once c.args.ws.now c.args.out.now c.requires.reads (omega (arith, c.list_bits-listed.ensures.same_count, c.if-n-gt-BITS.false)) (λ i. refl)
    (rw c.system_of-system.ensures.0 at c.form_listed.ensures)
