-- Unequal lengths do not fit.
use Rattle.std.proofs.Common.{sym, ◌∙◌}
use Rattle.std.proofs.lemmas.List.{length-map}
use Rattle.flatzinc.specs.Seen.{value}
use Rattle.flatnames.specs.SeenDue.{due_of}
use Rattle.flatnames.proofs.Fitting.{too_many}
use Rattle.flatnames.proofs.fits.each_fits.Goals as goal

pub returns-then-due-values : goal.returns-then-due-values
returns-then-due-values c =
    sym (too_many _ _ _ (λ e. c.if-due-values.true (sym (length-map c.args.due.now due_of) ∙ e ∙ length-map c.args.values.now value)))
