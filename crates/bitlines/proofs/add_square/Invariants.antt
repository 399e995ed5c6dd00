-- The loop's invariant is `Squared` of the line as it was before the bit met itself: the line holds the entries of the bits passed.
use Rattle.std.proofs.Common.{◌≡◌, List, ℤ}
use Rattle.bitlines.specs.Dense.{bump}
use Rattle.bitlines.specs.Line.{square_at}
use Rattle.bitlines.proofs.Line.{Squared}
use Rattle.bitlines.proofs.add_square.Given as goal

abbrev pub invariant-loop-d : goal.invariant-loop-d
invariant-loop-d l =
    (before : List ℤ) → l.initial.line ≡ bump before l.i (square_at l.row l.c l.i l.i) → Squared before l.row l.c l.i l.m l.line l.d
