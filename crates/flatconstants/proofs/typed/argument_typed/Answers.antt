use Rattle.flatconstants.proofs.typed.argument_typed.Goals as goal

pub returns-in-Exponent : goal.returns-in-Exponent
returns-in-Exponent c = rw c.in-Exponent.is (c.is_exponent.ensures c.args.variables.now)
