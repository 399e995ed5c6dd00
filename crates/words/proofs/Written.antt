-- Laws of answers that say how much was written: no fault stands before it, what was written fits, and it is the front of the lent list afterwards.
use Rattle.std.proofs.Common.{◌≡◌, refl, ap, Bool, true, false, List, ℕ, zero, suc, ◌≤◌, ◌<◌, arith, ltb, eqb, length, take, ltb-false}
use Rattle.integers.specs.Choice.{◌if◌else◌}
use Rattle.words.specs.Answer.{refused, written, refused_or, ◌else_answer◌}
use Rattle.words.specs.Fault as Fault
use Rattle.words.specs.Overlay.{overlay}
use Rattle.words.specs.Refusal.{◌at_place◌, accepted, fault_or, ◌else_refuse◌, room_fault}
use Rattle.words.specs.Refusals.{Refusal}
use Rattle.words.proofs.Overlay.{front-over, length-overlay}

-- the fault of an answer that is a refusal
pub refused-fault : (f : Refusal) (m p k : ℕ) → refused m p ≡ (f else_answer written k) → (0 < f.number) × ((m ≡ f.number) × (p ≡ f.place))
unfolding ◌else_answer◌
refused-fault f m p k e = go f.number f.place e
  where
    go : (n q : ℕ) → refused m p ≡ refused_or n q (written k) → (0 < n) × ((m ≡ n) × (p ≡ q))
    go zero q e = let z : ◌≡◌ {A = ℕ} 0 1 = cc in absurd (omega arith)
    go (suc n) q e = (omega arith, (cc, cc))

-- where n were written there is no fault, and n is their number
pub written-fault : (f : Refusal) (n k : ℕ) → written n ≡ (f else_answer written k) → (f.number ≡ 0) × (n ≡ k)
unfolding ◌else_answer◌
written-fault f n k e = go f.number f.place refl e
  where
    go : (m q : ℕ) → f.number ≡ m → written n ≡ refused_or m q (written k) → (f.number ≡ 0) × (n ≡ k)
    go zero q h e = (h, cc)
    go (suc m) q h e = let z : ◌≡◌ {A = ℕ} 0 1 = cc in absurd (omega arith)

-- where nothing is refused, nothing that comes later is
pub later-none : (a b : Refusal) → (a else_refuse b).number ≡ 0 → b.number ≡ 0
unfolding ◌else_refuse◌
later-none a b e = go a.number a.place e
  where
    go : (m p : ℕ) → (fault_or m p b).number ≡ 0 → b.number ≡ 0
    go zero p e = e
    go (suc m) p e = absurd (omega (arith, e))

-- where there is no fault 16, there is room
pub room_for : (room n : ℕ) → (room_fault room n).number ≡ 0 → n ≤ room
unfolding room_fault
room_for room n e = go (ltb room n) refl e
  where
    go : (short : Bool) → ltb room n ≡ short → (Fault.output_too_short at_place 0 if short else accepted).number ≡ 0 → n ≤ room
    go true h e = absurd (omega (arith, e))
    go false h e = omega (arith, ltb-false)

-- A call laid a list over another one, where it has no fault, and says how long it is; where it has none there is room.
pub record Wrote {A : Type 0} (f : Refusal) (xs list later : List A) (n : ℕ) : Type 0 where
  pub answer : written n ≡ (f else_answer written (length xs))
  pub output : later ≡ (overlay list 0 xs if eqb f.number Fault.none else list)
  pub room : f.number ≡ 0 → length xs ≤ length list

module _ {A : Type 0} {f : Refusal} {xs list later : List A} {n : ℕ} (w : Wrote f xs list later n) where
  -- there was no fault, and n is the length
  pub wrote-all : (f.number ≡ 0) × (n ≡ length xs)
  wrote-all = written-fault f n (length xs) w.answer

  over : later ≡ overlay list 0 xs
  over = rw wrote-all.0 at w.output

  -- what was written fits, and is the front of the list
  pub fits : n ≤ length later
  fits = omega (arith, wrote-all.1, w.room wrote-all.0, ap length over, length-overlay list 0 xs)

  pub front : take n later ≡ xs
  front = rw (over, wrote-all.1) (front-over list xs (w.room wrote-all.0))
