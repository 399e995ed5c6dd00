-- The number of what is found for a name: 1 more than that of a variable, a builtin's code; 0 where nothing is found.
use Rattle.std.specs.Prelude.{ℕ, ◌+◌, Option, None, Some}
use Rattle.models.specs.Codes.{code_number}
use Rattle.models.specs.declared.code.Code.{Code}

abbrev pub found_number : Option ℕ → ℕ
found_number None = 0
found_number (Some v) = v + 1

abbrev pub found_code : Option Code → ℕ
found_code None = 0
found_code (Some c) = code_number c
