-- Over the numbers of variables, with a variable for each constant; and with the shorter builtins.
use Rattle.std.specs.Prelude.{map}
use Rattle.flatzinc.specs.System.{System}
use Rattle.flatrewriting.specs.Rewritten.{shorter}
use Rattle.flatconstants.specs.Constants.{Prepared, constants, with_constants}

unfoldable pub numbered : Prepared → System
numbered P = let S = with_constants (constants P.items) P in record { bounds = S.bounds; builtins = map shorter S.builtins }
