-- A token of FlatZinc by what it says, and what the code's tokens stand for.
use Rattle.std.specs.Prelude.{List, ℕ, ℤ}
use Rattle.flattokens.specs.declared.Token.{Token as Spelt}
use Rattle.flattokens.specs.declared.Token.TheVariants as t

-- names, floats and texts by their bytes, a sign by its byte
pub data Token : Type 0 where
  name float text : (bytes : List ℕ) → Token
  number : (n : ℤ) → Token
  dots colons : Token
  sign : (byte : ℕ) → Token

abbrev pub token : Spelt → Token
token (t.Name bs) = name bs.now
token (t.Number n) = number n
token (t.Float bs) = float bs.now
token (t.Text bs) = text bs.now
token t.Dots = dots
token t.Colons = colons
token (t.Sign b) = sign b
