-- the bytes so far, and those that are still to come
use Rattle.std.proofs.Common.{◌≡◌, ◌++◌, false, drop}
use Rattle.flatplaces.specs.Path.{unescaped}
use Rattle.flatplaces.proofs.paths.unescaped.Given as goal

abbrev pub invariant-loop-byte : goal.invariant-loop-byte
invariant-loop-byte l = unescaped false l.text ≡ l.path.items ++ unescaped l.escaped (drop l.byte-index l.text)
