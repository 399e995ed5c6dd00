-- Each fault in its order; else the energy by the lists is the row system's.
use Rattle.std.proofs.Common.{◌≡◌, refl, ap, ◌∙◌, ◌<◌, min, arith, pos, w64}
use mir.Facts.{to_z_pos}
use lib.ListN.{length-replicate}
use Rattle.integers.specs.declared.Bounds.{Bounds}
use Rattle.std.proofs.lemmas.Result.{err_from_is_err_and}
use Rattle.integers.specs.Number.{count}
use Rattle.words.proofs.Faulty.{fault-number}
use Rattle.bitreading.proofs.Room.{domains-none, bits-none}
use Rattle.bitanswers.specs.BitEnergy.{energy_at, energy_is}
use Rattle.bitenergy.proofs.Answers.{not-bits, fine-bits, too_large, energy-is, energy-by}
use Rattle.bitenergy.proofs.energy_within.Given as given
use Rattle.bitenergy.proofs.energy_within.Goals.{After-rows_energy-total}
use Rattle.bitenergy.proofs.energy_within.Goals as goal

pub list_bits-listed-requires-clause-room : goal.list_bits-listed-requires-clause-room
list_bits-listed-requires-clause-room g c = rw (length-replicate {A = Bounds} g.row.N c.new-domains.result) c.requires.room.0

pub list_bits-listed-requires-clause-no_domains : goal.list_bits-listed-requires-clause-no_domains
list_bits-listed-requires-clause-no_domains g c = domains-none g.row.N refl c.new-domains.ensures

pub list_bits-listed-requires-clause-no_bits : goal.list_bits-listed-requires-clause-no_bits
list_bits-listed-requires-clause-no_bits g c = bits-none c.new-domains.result g.row.N refl

pub returns-in_err-check_bits : goal.returns-in_err-check_bits
returns-in_err-check_bits g c =
    let p = err_from_is_err_and c.from_residual.result c.from_residual.ensures.1 in
    rw (p.1, p.2) (not-bits c.args.ws.now c.args.bytes.now c.requires.reads c.list_bits-listed.ensures.same_count _ c.in_err-check_bits.ensures (fault-number _))

pub invariant_of-bits : goal.invariant_of-bits
invariant_of-bits g c =
    record { fine = fine-bits c.args.ws.now c.args.bytes.now c.requires.reads c.list_bits-listed.ensures.same_count _ c.in_ok-check_bits.ensures refl }

-- what the rows count is what the row system's count
total_is : (g : given.Over) (c : After-rows_energy-total g) → c.rows_energy-total.result ≡ min (count (energy_at c.args.ws.now c.args.bytes.now)) 4611686018427387904
total_is g c =
    let s = c.system_of-system.ensures in
    energy-by c.args.ws.now c.args.bytes.now (rw (s.0, s.1, s.2, s.3) c.list_bits-listed.ensures.same_rows) c.rows_energy-total.ensures

pub returns-then-total-ge-ENERGY_LIMIT : goal.returns-then-total-ge-ENERGY_LIMIT
returns-then-total-ge-ENERGY_LIMIT g c =
    let t = total_is g (goal.at.returns-then-total-ge-ENERGY_LIMIT g c).After-rows_energy-total in
    too_large c.args.ws.now c.args.bytes.now c.requires.reads c.list_bits-listed.ensures.same_count _ c.in_ok-check_bits.ensures refl (omega (arith, t, c.if-total-ge-ENERGY_LIMIT.true))

pub returns : goal.returns
returns g c =
    let n = c.rows_energy-total.result in
    let t = total_is g (goal.at.returns g c).After-rows_energy-total in
    let h : n < 9223372036854775808 = omega (arith, t) in
    let e : n ≡ count (energy_at c.args.ws.now c.args.bytes.now) = omega (arith, t, c.if-total-ge-ENERGY_LIMIT.false) in
    ap energy_is (to_z_pos w64 {n = n} h ∙ ap pos e)
    ∙ energy-is c.args.ws.now c.args.bytes.now c.requires.reads c.list_bits-listed.ensures.same_count _ c.in_ok-check_bits.ensures refl (omega (arith, t, c.if-total-ge-ENERGY_LIMIT.false))
