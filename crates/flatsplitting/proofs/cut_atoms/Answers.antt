use Rattle.std.proofs.Common.{ap, ◌∙◌, Some}
use Rattle.flatzinc.specs.Calls.{numbers_of}
use Rattle.flatsplitting.proofs.Added as a
use Rattle.flatsplitting.proofs.cut_atoms.Goals as goal

pub returns : goal.returns
returns c =
    let h = rw c.in_ok-numbers.ensures at c.in_ok-rest.ensures in
    (h.0, ap numbers_of c.in_ok-atoms_of.ensures ∙ a.numbers-back c.deref.result.now ∙ ap Some (c.deref.ensures.value ∙ h.1))
