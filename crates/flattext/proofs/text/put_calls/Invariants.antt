-- the text before, what is put so far, and what is still to come
use Rattle.std.proofs.Common.{◌≡◌, ◌++◌, drop}
use Rattle.std.specs.Prelude.{map, option_map}
use Rattle.flatplaces.specs.Seen.{place}
use Rattle.flattext.specs.SeenCalled.{called}
use Rattle.flattext.specs.ModelText.{call_lines}
use Rattle.flattext.proofs.text.put_calls.Given as goal

abbrev pub invariant-loop-k : goal.invariant-loop-k
invariant-loop-k l = l.initial.out.items ++ call_lines (map called l.names) (map (option_map place) l.places) 0 l.calls ≡ l.out.items ++ call_lines (map called l.names) (map (option_map place) l.places) l.k (drop l.k l.calls)
