-- No name, no link.
use Rattle.std.proofs.Common.{ℕ, refl, ◌∙◌, length}
use lib.ListN.{length-replicate}
use Rattle.integers.proofs.Places.{get_or-replicate_same}
use Rattle.symbols.proofs.Grown.{no_names}
use Rattle.symbols.proofs.tree.Tree.clear.Goals as goal

pub returns-clause-tree : goal.returns-clause-tree
returns-clause-tree c =
    let n = length c.args.self.now.links.now in
    no_names (record { few = c.requires.few; size = rw c.clear.ensures (length-replicate {A = ℕ} n 0 ∙ c.requires.size) }) refl (λ s. rw c.clear.ensures (get_or-replicate_same {A = ℕ} n s 0))
