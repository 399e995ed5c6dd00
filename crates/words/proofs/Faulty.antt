-- A fault has a number, which is not 0: a reading that has one is refused, and nothing that comes after it counts.
use Rattle.std.proofs.Common.{◌≡◌, ℕ, zero, suc, refl, arith}
use Rattle.words.specs.Answer.{Answer, refused, refused_or}
use Rattle.words.specs.Faults.{fault_number}
use Rattle.words.specs.Refusal.{◌at_place◌, fault_or}
use Rattle.words.specs.Refusals.{Refusal}
use Rattle.words.specs.declared.fault.Fault.{Fault}
use Rattle.words.specs.declared.fault.Fault.TheVariants as f

pub fault-number : (e : Fault) → fault_number e ≡ 0 → ⊥
fault-number e = elim e as (λ e. fault_number e ≡ 0 → ⊥) [
  | f.TooManyWords ↦ λ z. omega arith
  | f.WordsEnd ↦ λ z. omega arith
  | f.WrongKind ↦ λ z. omega arith
  | f.UpperBelowLower ↦ λ z. omega arith
  | f.PayloadAboveZero ↦ λ z. omega arith
  | f.TooManyVariables ↦ λ z. omega arith
  | f.TooManyConstraints ↦ λ z. omega arith
  | f.UnknownCode ↦ λ z. omega arith
  | f.LengthOutside ↦ λ z. omega arith
  | f.NotDeclared ↦ λ z. omega arith
  | f.WordAfterEnd ↦ λ z. omega arith
  | f.SetTooWide ↦ λ z. omega arith
  | f.NumberOutside ↦ λ z. omega arith
  | f.TooManyInAll ↦ λ z. omega arith
  | f.WrongValueCount ↦ λ z. omega arith
  | f.OutputTooShort ↦ λ z. omega arith
  | f.ResultNotAbove ↦ λ z. omega arith
  | f.LowestNumber ↦ λ z. omega arith
  | f.BreaksGrammar ↦ λ z. omega arith
  | f.WrongName ↦ λ z. omega arith
  | f.OutsideRange ↦ λ z. omega arith
  | f.TooManyLists ↦ λ z. omega arith
  | f.TooManyBits ↦ λ z. omega arith
  | f.FormTooLarge ↦ λ z. omega arith
  | f.NotABit ↦ λ z. omega arith
  | f.NoSuchVariable ↦ λ z. omega arith
]

numbered : (n : ℕ) → (n ≡ 0 → ⊥) → (p : ℕ) (after : Refusal) → fault_or n p after ≡ n at_place p
numbered zero h p after = absurd (h refl)
numbered (suc n) h p after = refl

pub fault-refuses : (e : Fault) (p : ℕ) (after : Refusal) → fault_or (fault_number e) p after ≡ fault_number e at_place p
fault-refuses e = numbered (fault_number e) (fault-number e)

answered : (n : ℕ) → (n ≡ 0 → ⊥) → (p : ℕ) (after : Answer) → refused_or n p after ≡ refused n p
answered zero h p after = absurd (h refl)
answered (suc n) h p after = refl

pub fault-answers : (e : Fault) (p : ℕ) (after : Answer) → refused_or (fault_number e) p after ≡ refused (fault_number e) p
fault-answers e = answered (fault_number e) (fault-number e)
