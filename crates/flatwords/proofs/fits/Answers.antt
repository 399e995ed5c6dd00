use Rattle.std.proofs.Common.{◌≡◌, ◌↔◌, Bool, true, sym, subst}
use Rattle.flatwords.specs.Fits.{ModelFits}
use Rattle.flatwords.proofs.Fitting.{says-fits}
use Rattle.flatwords.proofs.fits.Goals as goal

pub returns : goal.returns
returns c bs e = subst (λ (t : Bool). (t ≡ true) ↔ ModelFits c.args.variables.now bs) (sym c.all_fit.ensures) (says-fits c.args.variables.now c.args.calls.now bs e)
