-- A case begins with four numbers of 32 bits, the lowest byte first: the call, the room, how many words, how many values.
use Rattle.std.specs.Prelude.{◌≡◌, List, ℕ, ◌+◌, ◌*◌, ◌<◌, length, get_or, Option, None, Some}
use Rattle.std.specs.Io.KnownBytes.{Consumes, IsAtEnd}
use Rattle.encoding.specs.Bytes.{bytes_word}
use Rattle.cases.specs.declared.input.Head.{Head}

-- number k of the bytes of a head, counted from 0
unfoldable pub number_at : List ℕ → ℕ → ℕ
number_at bytes k = bytes_word (get_or bytes (4 * k) 0) (get_or bytes (4 * k + 1) 0) (get_or bytes (4 * k + 2) 0) (get_or bytes (4 * k + 3) 0)

-- the head that 16 bytes write
unfoldable pub head_of : List ℕ → Head
head_of bytes = record { call = number_at bytes 0; room = number_at bytes 1; words = number_at bytes 2; values = number_at bytes 3 }

-- what is found where the known bytes of an input were some and are others: none where fewer than 16 bytes were left, which are read, else the head that the
-- next 16 write
abbrev pub NextHead : Option (List ℕ) → Option (List ℕ) → Option Head → Type 0
NextHead old new None = (bytes : List ℕ) × (length bytes < 16) × Consumes old new bytes × IsAtEnd new
NextHead old new (Some head) = (bytes : List ℕ) × (length bytes ≡ 16) × (head ≡ head_of bytes) × Consumes old new bytes
