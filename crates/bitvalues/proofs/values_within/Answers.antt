-- Each fault in its order; else the values by the lists are the row system's.
use Rattle.std.proofs.Common.{refl, arith}
use lib.ListN.{length-replicate}
use Rattle.integers.specs.declared.Bounds.{Bounds}
use Rattle.std.proofs.lemmas.Result.{err_from_is_err_and}
use Rattle.words.proofs.Faulty.{fault-number}
use Rattle.bitreading.proofs.Room.{domains-none, bits-none}
use Rattle.bitvalues.proofs.Answers.{not-bits, fine-bits, too_short, writes, values-by}
use Rattle.bitvalues.proofs.values_within.Goals as goal

pub list_bits-listed-requires-clause-room : goal.list_bits-listed-requires-clause-room
list_bits-listed-requires-clause-room g c = rw (length-replicate {A = Bounds} g.row.N c.new-domains.result) c.requires.room.0

pub list_bits-listed-requires-clause-no_domains : goal.list_bits-listed-requires-clause-no_domains
list_bits-listed-requires-clause-no_domains g c = domains-none g.row.N refl c.new-domains.ensures

pub list_bits-listed-requires-clause-no_bits : goal.list_bits-listed-requires-clause-no_bits
list_bits-listed-requires-clause-no_bits g c = bits-none c.new-domains.result g.row.N refl

pub returns-in_err-check_bits : goal.returns-in_err-check_bits
returns-in_err-check_bits g c =
    let p = err_from_is_err_and c.from_residual.result c.from_residual.ensures.1 in
    rw (p.1, p.2) (not-bits c.args.ws.now c.args.bytes.now c.args.out.now c.requires.reads c.list_bits-listed.ensures.same_count _ c.in_err-check_bits.ensures (fault-number _))

pub returns-then-out-n : goal.returns-then-out-n
returns-then-out-n g c =
    let k = c.list_bits-listed.ensures in
    too_short c.args.ws.now c.args.bytes.now c.args.out.now c.requires.reads k.same_count _ c.in_ok-check_bits.ensures refl (omega (arith, k.as_many, c.if-out-n.true))

pub invariant_of-bits : goal.invariant_of-bits
invariant_of-bits g c =
    record { fine = fine-bits c.args.ws.now c.args.bytes.now c.args.out.now c.requires.reads c.list_bits-listed.ensures.same_count _ c.in_ok-check_bits.ensures refl }

pub returns : goal.returns
returns g c =
    let k = c.list_bits-listed.ensures in
    rw (c.put_values.ensures, values-by c.args.ws.now c.args.bytes.now k, k.as_many)
    (writes c.args.ws.now c.args.bytes.now c.args.out.now c.requires.reads k.same_count _ c.in_ok-check_bits.ensures refl (omega (arith, k.as_many, c.if-out-n.false)))
