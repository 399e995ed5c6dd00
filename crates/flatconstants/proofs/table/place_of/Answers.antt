use Rattle.std.proofs.Common.{◌∙◌, sym, rules, w64, FitsSigned, to_z-of_z}
use Rattle.flatconstants.proofs.TableLaws.{no_variable}
use Rattle.flatconstants.proofs.table.place_of.Goals as goal

pub returns-in-Whole : goal.returns-in-Whole
returns-in-Whole c =
    let f : FitsSigned w64 c.in-Whole.number = search rules in
    rw c.in-Whole.is (c.place_in.ensures ∙ rw (to_z-of_z f) (c.requires.wholes c.in-Whole.number))

pub returns-in-Variable : goal.returns-in-Variable
returns-in-Variable c = rw c.in-Variable.is (sym (no_variable _ _))
