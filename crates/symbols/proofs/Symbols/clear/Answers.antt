-- No name has a number.
use Rattle.std.proofs.Common.{ℕ, refl, sym, ◌∙◌, length}
use lib.ListN.{length-replicate}
use Rattle.integers.proofs.Places.{get_or-replicate_same}
use Rattle.symbols.proofs.Symbols.clear.Goals as goal

pub returns : goal.returns
returns c = λ bs.
    let n = length c.args.self.now.numbers.now in
    record {
      tree = c.clear.ensures.tree bs;
      size = rw c.clear-2.ensures (length-replicate {A = ℕ} n 0 ∙ c.requires.size ∙ sym c.clear.ensures.room);
      none = λ i. rw c.clear-2.ensures (get_or-replicate_same {A = ℕ} n i 0);
      lost = refl;
    }
