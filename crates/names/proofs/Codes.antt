-- Every number from 1 to that of the last name is a code.
use Rattle.std.proofs.Common.{◌≡◌, List, map, ℕ, ◌+◌, ◌<◌, ◌≤◌, add-one, Result, Ok, Err}
use Rattle.std.specs.Result.{result_ok}
use Rattle.models.specs.Table.{last}
use Rattle.models.specs.Codes.{Decodes}
use Rattle.models.specs.declared.code.Code.{Code}
use Rattle.models.specs.declared.code.UnknownCode.{UnknownCode}
use Rattle.models.proofs.AllCodes.{code_at, coded}
use Rattle.tokens.specs.Byte.{bytes}
use Rattle.names.specs.Found.{found_code}
use Rattle.names.specs.Name.{look_up, builtin_names}
use Rattle.names.proofs.Names.{look_most}

-- what decodes a number that a name has is its code
pub decoded : (i : ℕ) → i < last → (r : Result Code UnknownCode) → Decodes (i + 1) r → found_code (result_ok r) ≡ i + 1
decoded i h (Ok k) d = d
decoded i h (Err e) d = absurd (d.1 (code_at i) (rw add-one (coded i h)))

pub look_names : (x : List ℕ) → look_up x 0 (map bytes builtin_names) ≤ last
unfolding builtin_names
look_names x = look_most x 0 (map bytes builtin_names)
