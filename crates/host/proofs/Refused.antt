-- Check over bytes refuses more than 8,192 words, whatever they are.
use Rattle.std.proofs.Common.{◌≡◌, List, ℕ, ◌<◌, length, lt-ltb}
use Rattle.words.specs.Refusal.{◌else_refuse◌}
use Rattle.words.specs.Answer.{refusal_number, ◌else_answer◌}
use Rattle.encoding.specs.Bytes.{bytes_words}
use Rattle.models.specs.Reading.{read_model_in}
use Rattle.rules.specs.Check.{check_fault_in, check_in}
use Rattle.host.specs.Bytes.{check_bytes}

pub too_many : (bytes : List ℕ) → 8192 < length (bytes_words bytes) → 1 ≡ check_bytes bytes
unfolding check_bytes check_in check_fault_in read_model_in refusal_number ◌else_refuse◌ ◌else_answer◌
too_many bytes h = rw (lt-ltb 8192 (length (bytes_words bytes)) h)
