-- Where a call answers how many elements it wrote, they fit the list and are its front.
use Rattle.std.specs.Prelude.{IfOk}
use Rattle.std.proofs.Common.{◌≡◌, List, ℕ, ◌≤◌, eqb, length, take, Result, Ok, Err}
use Rattle.integers.specs.Choice.{◌if◌else◌}
use Rattle.words.specs.Answer.{written, ◌else_answer◌}
use Rattle.words.specs.Fault as Fault
use Rattle.words.specs.Faults.{written_of}
use Rattle.words.specs.Overlay.{overlay}
use Rattle.words.specs.Refusals.{Refusal}
use Rattle.words.specs.declared.fault.Refusal as error
use Rattle.words.proofs.Written.{Wrote, fits, front}

module _ {A : Type 0} (f : Refusal) (xs list later : List A) where
  pub ok-wrote : (r : Result ℕ error.Refusal) → written_of r ≡ (f else_answer written (length xs)) → later ≡ (overlay list 0 xs if eqb f.number Fault.none else list) → (f.number ≡ 0 → length xs ≤ length list) →
      IfOk r (λ n. n ≤ length later) × IfOk r (λ n. take n later ≡ xs)
  ok-wrote (Ok n) a o room = let w : Wrote f xs list later n = record { answer = a; output = o; room = room } in (fits w, front w)
  ok-wrote (Err e) a o room = (tt, tt)
