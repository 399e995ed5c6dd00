-- Of the struct that a host gets: how much it says was written fits the list, since the call says so of its answer.
use Rattle.std.specs.Prelude.{IfOk}
use Rattle.std.proofs.Common.{◌≡◌, ℕ, ◌*◌, ◌≤◌, arith, Result, Ok, Err}
use Rattle.words.specs.Faults.{written_of}
use Rattle.words.specs.declared.fault.Refusal.{Refusal}
use Rattle.filling.specs.declared.Filling.{Filling}
use Rattle.filling.specs.declared.Filling.TheVariants as Filled
use Rattle.filling.specs.Filled.{handed, IfFilled}
use Rattle.valuebits.specs.declared.Encoded.{Encoded}
use Rattle.valuebits.specs.declared.Encoded.TheVariants as Bits
use Rattle.valuebits.specs.Encoded.{encoded, IfEncoded}
use Rattle.structs.specs.declared.Judgement.{Judgement}
use Rattle.structs.specs.declared.Listed.{Listed}
use Rattle.structs.specs.declared.PrintedBytes.{PrintedBytes}
use Rattle.structs.specs.declared.WrittenValues.{WrittenValues}
use Rattle.structs.specs.declared.WrittenWords.{WrittenWords}
use Rattle.structs.specs.Structs.{counted_answer, judgement_of, listed_of, printed_of, written_values_of, written_words_of}

-- a fact of the number that is said, which is 0 where the call refuses
said : {A : Type 0} (made : ℕ → ℕ → ℕ → A) (P : A → Type 0) (r : Result ℕ Refusal) → ((n p : ℕ) → P (made n p 0)) → IfOk r (λ k. P (made 0 0 k)) → P (counted_answer made (written_of r))
unfolding counted_answer
said made P (Ok k) none h = h
said made P (Err x) none h = none _ _

pub words-room : (r : Result ℕ Refusal) (w : WrittenWords) (room : ℕ) → w ≡ written_words_of (written_of r) → IfOk r (λ k. k ≤ room) → w.words ≤ room
unfolding written_words_of
words-room r w room e h = rw e (said _ (λ (w : WrittenWords). w.words ≤ room) r (λ n p. omega arith) h)

pub bytes-room : (r : Result ℕ Refusal) (w : PrintedBytes) (room : ℕ) → w ≡ printed_of (written_of r) → IfOk r (λ k. k ≤ room) → w.bytes ≤ room
unfolding printed_of
bytes-room r w room e h = rw e (said _ (λ (w : PrintedBytes). w.bytes ≤ room) r (λ n p. omega arith) h)

pub lists-room : (r : Result ℕ Refusal) (w : Listed) (size room : ℕ) → w ≡ listed_of (written_of r) → IfOk r (λ k. k * size ≤ room) → w.solutions * size ≤ room
unfolding listed_of
lists-room r w size room e h = rw e (said _ (λ (w : Listed). w.solutions * size ≤ room) r (λ n p. omega arith) h)

pub values-room : (r : Result ℕ Refusal) (w : WrittenValues) (room : ℕ) → w ≡ written_values_of (written_of r) → IfOk r (λ k. k ≤ room) → w.values ≤ room
unfolding written_values_of
values-room r w room e h = rw e (said _ (λ (w : WrittenValues). w.values ≤ room) r (λ n p. omega arith) h)

pub filled-room : (r : Result Filling Refusal) (w : Judgement) (room : ℕ) → w ≡ judgement_of (handed r) → IfFilled r (λ k. k ≤ room) → w.said ≡ 1 → w.at ≤ room
unfolding judgement_of
filled-room (Ok (Filled.Values k)) w room e h = rw e (λ s. h)
filled-room (Ok (Filled.OutOfBounds i)) w room e h = rw e (λ s. absurd (omega (arith, s)))
filled-room (Ok (Filled.False i)) w room e h = rw e (λ s. absurd (omega (arith, s)))
filled-room (Err x) w room e h = rw e (λ s. absurd (omega (arith, s)))

pub encoded-room : (r : Result Encoded Refusal) (w : Judgement) (room : ℕ) → w ≡ judgement_of (encoded r) → IfEncoded r (λ k. k ≤ room) → w.said ≡ 1 → w.at ≤ room
unfolding judgement_of
encoded-room (Ok (Bits.Bits k)) w room e h = rw e (λ s. h)
encoded-room (Ok (Bits.OutOfBounds i)) w room e h = rw e (λ s. absurd (omega (arith, s)))
encoded-room (Ok (Bits.False i)) w room e h = rw e (λ s. absurd (omega (arith, s)))
encoded-room (Err x) w room e h = rw e (λ s. absurd (omega (arith, s)))
