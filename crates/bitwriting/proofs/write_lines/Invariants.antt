-- The invariant: the entries left are still to be tested and laid, and the band holds the lines of some bits.
use Rattle.std.proofs.Common.{◌≡◌, ◌≤◌, length}
use Rattle.bitwriting.specs.Bands.{Held}
use Rattle.bitwriting.specs.Lined.{entry_taken}
use Rattle.bitwriting.proofs.Putting.{Putting}
use Rattle.bitwriting.proofs.write_lines.Given as goal

abbrev pub invariant-loop-i : goal.invariant-loop-i
invariant-loop-i l =
    Putting (entry_taken l.taken l.system) l.n l.at l.initial.out l.out l.to l.i × Held l.taken l.system l.n l.held.start l.held.end l.band × (l.held.start ≤ l.i) × (l.held.end ≤ l.n) × (length l.band ≡ length l.initial.band)
