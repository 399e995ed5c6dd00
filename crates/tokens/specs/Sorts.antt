-- The number of each sort of token, as the definitions have it.
use Rattle.std.specs.Prelude.{ℕ}
use Prim.Native.Char.{code}
use Rattle.tokens.specs.Token as Token
use Rattle.tokens.specs.declared.sort.Sort.{Sort}
use Rattle.tokens.specs.declared.sort.Sort.TheVariants as s

abbrev pub sort_number : Sort → ℕ
sort_number s.Broken = Token.broken
sort_number s.Number = Token.number
sort_number s.Name = Token.name
sort_number s.Opening = code "("
sort_number s.Closing = code ")"
sort_number s.Comma = code ","
sort_number s.Dots = code "."
sort_number s.Colon = code ":"
sort_number s.Semicolon = code ";"
sort_number s.OpenList = code "["
sort_number s.CloseList = code "]"
sort_number s.OpenSet = code "{"
sort_number s.CloseSet = code "}"
sort_number s.End = Token.end
