-- whether all bytes are those of names is whether those that are left are
use Rattle.std.proofs.Common.{◌≡◌, drop}
use Rattle.flattext.specs.Name.{all_in_name}
use Rattle.flattext.proofs.names.is_plain.Given as goal

abbrev pub invariant-loop-byte : goal.invariant-loop-byte
invariant-loop-byte l = all_in_name l.name ≡ all_in_name (drop l.byte-index l.name)
