-- Four entries, each at most 3 more.
use Rattle.std.proofs.Common.{◌∙◌, arith, pos}
use Rattle.integers.specs.Number.{+1, -2}
use Rattle.bitlines.specs.Dense.{add_terms}
use Rattle.bitlines.specs.Line.{on_terms, pair_of}
use Rattle.bitlines.proofs.Line.{peak-on, pair-added}
use Rattle.bitlines.proofs.add_pair.Goals as goal

pub add_on-requires-2 : goal.add_on-requires-2
add_on-requires-2 c =
    rw c.add_on.ensures (omega (arith, peak-on c.args.line.now (pos 3) c.args.t c.args.t c.args.i, c.requires))

pub add_on-requires-3 : goal.add_on-requires-3
add_on-requires-3 c =
    let A = add_terms c.args.line.now (on_terms (pos 3) c.args.t c.args.t c.args.i) in
    rw (c.add_on-2.ensures, c.add_on.ensures)
    (omega (arith, peak-on c.args.line.now (pos 3) c.args.t c.args.t c.args.i, peak-on A +1 c.args.u c.args.v c.args.i, c.requires))

pub add_on-requires-4 : goal.add_on-requires-4
add_on-requires-4 c =
    let A = add_terms c.args.line.now (on_terms (pos 3) c.args.t c.args.t c.args.i) in
    let B = add_terms A (on_terms +1 c.args.u c.args.v c.args.i) in
    rw (c.add_on-3.ensures, c.add_on-2.ensures, c.add_on.ensures)
    (omega (
      arith,
      peak-on c.args.line.now (pos 3) c.args.t c.args.t c.args.i,
      peak-on A +1 c.args.u c.args.v c.args.i,
      peak-on B -2 c.args.u c.args.t c.args.i,
      c.requires,
    ))

pub returns : goal.returns
returns c =
    c.add_on-4.ensures ∙ rw (c.add_on-3.ensures, c.add_on-2.ensures, c.add_on.ensures) (pair-added c.args.line.now (pair_of c.args.u c.args.v c.args.t) c.args.i)
