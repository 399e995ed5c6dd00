-- 01, Words: "A word has 32 bits; the top 4 are its kind, the low 28 its payload."
use Rattle.std.specs.Prelude.{Bool, not, List, ℕ, ◌+◌, ◌-◌, ◌*◌, ◌/◌, ◌%◌, ltb, ℤ, pos, negsuc, get_or}
use Rattle.integers.specs.Choice.{◌if◌else◌}
use Rattle.integers.specs.Bounds.{within}
use Rattle.integers.specs.declared.Bounds.{Bounds}
use Rattle.words.specs.Limit as Limit

unfoldable pub kind : ℕ → ℕ
kind w = w / Limit.payloads

unfoldable pub payload : ℕ → ℕ
payload w = w % Limit.payloads

-- "Signed payloads are two's complement": below 2^27 the payload itself, else the payload less 2^28
unfoldable pub signed : ℕ → ℤ
signed w = pos (payload w) if ltb (payload w) Limit.half else negsuc (Limit.last_payload - payload w)

-- whether a number is in the range
abbrev pub in_range : ℤ → Bool
in_range = within Limit.range

-- 02, wish 2: 18, "when a signed payload, a list length too, is the lowest 28-bit number": the one that is not in the range
unfoldable pub too_low : Bounds → ℕ → Bool
too_low range w = not (within range (signed w))

-- the word of a kind and a payload, and of a kind and a number of the range
unfoldable pub word : ℕ → ℕ → ℕ
word k p = k * Limit.payloads + p % Limit.payloads

-- the payload of a number of the range
unfoldable pub complement : ℤ → ℕ
complement (pos n) = n % Limit.payloads
complement (negsuc n) = Limit.last_payload - n % Limit.payloads

unfoldable pub number_word : ℕ → ℤ → ℕ
number_word k z = word k (complement z)

-- the word at place i, 0 past the last one
unfoldable pub word_at : List ℕ → ℕ → ℕ
word_at ws i = get_or ws i 0
