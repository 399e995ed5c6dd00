-- 01, Five calls: "runs check over bytes, four to a word, lowest first; it gets the refusal number, 0 if accepted; 1 to 3 spare bytes are left off".
use Rattle.std.specs.Prelude.{List, ℕ}
use Rattle.words.specs.Answer.{refusal_number}
use Rattle.encoding.specs.Bytes.{bytes_words}
use Rattle.rules.specs.Check.{check}

unfoldable pub check_bytes : List ℕ → ℕ
check_bytes bytes = refusal_number (check (bytes_words bytes))
