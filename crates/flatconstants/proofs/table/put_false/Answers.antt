use Rattle.std.proofs.Common.{◌∙◌, sym, refl}
use Rattle.flatconstants.specs.Constants.{known}
use Rattle.flatconstants.proofs.TableLaws.{found-some}
use Rattle.flatconstants.proofs.table.put_false.Goals as goal

pub returns-in-Some-clause-constants : goal.returns-in-Some-clause-constants
unfolding known
returns-in-Some-clause-constants c = rw (found-some _ _ _ (sym c.requires.no ∙ c.in-Some.is)) refl
