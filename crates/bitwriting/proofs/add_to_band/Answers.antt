-- A row without these bits adds nothing.
use Rattle.std.proofs.Common.{refl, ap, ◌+◌, arith}
use Rattle.bittables.specs.BitTables.{firsts, counts}
use Rattle.bitwriting.proofs.Lining.{none-added}
use Rattle.bitwriting.proofs.add_to_band.Goals.{then-holds_bits, else-holds_bits}
use Rattle.bitwriting.proofs.add_to_band.Goals as goal

pub add_to_lines-requires-clause-owned : goal.add_to_lines-requires-clause-owned
add_to_lines-requires-clause-owned c = c.own_bits-own.ensures.value (firsts c.args.table.now.bits.now) c.args.first

pub returns : goal.returns
returns c =
    let e = c.own_bits-own.ensures.value (firsts c.args.table.now.bits.now) c.args.first in
    record {
      added =
          elim c.if-holds_bits.branch [
            | then-holds_bits w ↦ rw w.band-is w.add_to_lines.ensures
            | else-holds_bits w ↦
                rw w.band-is
                (record {
                  same = refl;
                  lines = λ q v. none-added c.args.table.now.domains.now (firsts c.args.table.now.bits.now) (counts c.args.table.now.bits.now) c.requires.counted c.args.first _ c.args.head c.args.args.now (c.args.i + q) _ e (c.holds_bits.ensures w.if-holds_bits.false q v);
                })
          ];
      next = (ap (λ n. c.args.first + n) e, omega (arith, c.own_bits-own.ensures.few));
    }
