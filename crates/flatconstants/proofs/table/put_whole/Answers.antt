use Rattle.std.proofs.Common.{◌∙◌, sym, refl, to_z-of_z}
use Rattle.std.proofs.lemmas.Result.{on_ok_weaker}
use Rattle.flatzinc.specs.declared.Atom.TheVariants.{Whole}
use Rattle.flatconstants.specs.Constants.{known}
use Rattle.flatconstants.proofs.TableLaws.{found-some}
use Rattle.flatconstants.proofs.table.put_whole.Goals as goal

pub returns-in-Some-clause-constants : goal.returns-in-Some-clause-constants
unfolding known
returns-in-Some-clause-constants c = let p = c.args.table.now.constants.items in rw (found-some p (Whole c.args.number) _ (sym (c.in-Some.ensures ∙ rw (to_z-of_z c.ranges.number) (c.requires.wholes c.args.number)))) refl

pub returns-in-None-clause-constants : goal.returns-in-None-clause-constants
unfolding known
returns-in-None-clause-constants c = on_ok_weaker c.put_new_whole.result (λ e. e ∙ rw (to_z-of_z c.ranges.number) refl) c.put_new_whole.ensures.constants
