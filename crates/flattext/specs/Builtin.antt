-- The name of a builtin, as the table of codes has it.
use Rattle.std.specs.Prelude.{List, ℕ, codes}
use Rattle.models.specs.declared.code.Code.{Code}
use Rattle.flatzinc.specs.Seen.{row}

unfoldable pub builtin_name : Code → List ℕ
builtin_name c = codes (row c).name
