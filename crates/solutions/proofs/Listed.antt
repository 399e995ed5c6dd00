-- What the call says it listed: exactly the lists that satisfy the model, each once, in order.
use Rattle.std.proofs.Common.{◌≡◌, refl, sym, ap, ◌∙◌, inl, inr, Bool, true, false, List, [], ◌∷◌, ℕ, zero, suc, ◌*◌, ◌≤◌, arith, ltb, eqb, ℤ, length, length-append, take, ltb-false, Result, Ok, Err}
use mathlib.Core.List.{flatten}
use Rattle.std.specs.Prelude.{IfOk}
use Rattle.integers.specs.Choice.{◌if◌else◌}
use Rattle.integers.proofs.Lists.{all-members}
use Rattle.integers.proofs.Tests.{All, Member}
use Rattle.words.specs.Fault as Fault
use Rattle.words.specs.Overlay.{overlay}
use Rattle.words.specs.Variables.{variables}
use Rattle.words.specs.Refusal.{◌at_place◌, accepted, fault_or, ◌else_refuse◌, room_fault}
use Rattle.words.specs.Answer.{Answer, written, refused_or, ◌else_answer◌}
use Rattle.words.specs.Refusals.{Refusal}
use Rattle.words.specs.Faults.{written_of}
use Rattle.words.specs.declared.fault.Refusal as error
use Rattle.words.proofs.Overlay.{front-over, length-overlay}
use Rattle.rules.specs.Check.{check_fault}
use Rattle.solutions.specs.Solutions.{solutions, lists_fault, solutions_fault, solutions_answer, solutions_listed}
use Rattle.solutions.specs.AllSolutions.{OneOf, InOrder, Before, Lists, AllSolutions}
use Rattle.solutions.proofs.Complete.{complete}
use Rattle.solutions.proofs.Order.{Sorted, sorted-solutions}

-- ---- the words of the law

of-member : (vs : List ℤ) (ls : List (List ℤ)) → Member vs ls → OneOf vs ls
of-member vs [] h = h
of-member vs (us ∷ ls) (inl e) = inl e
of-member vs (us ∷ ls) (inr h) = inr (of-member vs ls h)

member-of : (vs : List ℤ) (ls : List (List ℤ)) → OneOf vs ls → Member vs ls
member-of vs [] h = h
member-of vs (us ∷ ls) (inl e) = inl e
member-of vs (us ∷ ls) (inr h) = inr (member-of vs ls h)

ordered : (ls : List (List ℤ)) → Sorted ls → InOrder ls
ordered [] s = tt
ordered (vs ∷ ls) s = (λ us h. (all-members (Before vs) ls).0 s.0 us (member-of us ls h), ordered ls s.1)

-- ---- one list after another

flat-size : (k : ℕ) (ls : List (List ℤ)) → All (λ vs. length vs ≡ k) ls → length (flatten ls) ≡ length ls * k
unfolding flatten
flat-size k [] h = omega arith
flat-size k (vs ∷ ls) h = omega (arith, length-append vs (flatten ls), flat-size k ls h.1, h.0)

module _ (ws : List ℕ) (out : List ℤ) (n : ℕ) (e : solutions_answer ws (length out) ≡ written n) where
  -- check's fault, 22, 16
  abbrev found : ℕ → ℕ → ℕ → ℕ → Bool → Refusal
  found m p k q short = fault_or m p (fault_or k q (Fault.output_too_short at_place 0 if short else accepted))

  abbrev All-written : ℕ → Type 0
  All-written number =
      (n ≡ length (solutions ws))
      × ((length (solutions ws) * length (variables ws) ≤ length out) × ((overlay out 0 (flatten (solutions ws)) if eqb number Fault.none else out) ≡ overlay out 0 (flatten (solutions ws))))

  wrote : All-written (solutions_fault ws (length out)).number
  unfolding solutions_answer solutions_fault room_fault ◌else_refuse◌ ◌else_answer◌
  wrote = by (check_fault ws).number (check_fault ws).place (lists_fault (variables ws)).number (lists_fault (variables ws)).place (ltb (length out) (length (solutions ws) * length (variables ws))) refl e
    where
      by : (m p k q : ℕ) (short : Bool) → ltb (length out) (length (solutions ws) * length (variables ws)) ≡ short →
          refused_or (found m p k q short).number (found m p k q short).place (written (length (solutions ws))) ≡ written n → All-written (found m p k q short).number
      by zero p zero q false h e = let l : n ≡ length (solutions ws) = cc in (l, (ltb-false _ _ h, refl))
      by zero p zero q true h e = let z : ◌≡◌ {A = ℕ} 0 1 = cc in absurd (omega arith)
      by zero p (suc k) q short h e = let z : ◌≡◌ {A = ℕ} 0 1 = cc in absurd (omega arith)
      by (suc m) p k q short h e = let z : ◌≡◌ {A = ℕ} 0 1 = cc in absurd (omega arith)

  size : length (flatten (solutions ws)) ≡ length (solutions ws) * length (variables ws)
  size = flat-size (length (variables ws)) (solutions ws) ((all-members (λ vs. length vs ≡ length (variables ws)) (solutions ws)).1 (λ vs m. ((complete ws vs).0 m).one_each))

  -- what was written fits, and is the front
  listed-fits : n * length (variables ws) ≤ length (solutions_listed ws out)
  unfolding solutions_listed
  listed-fits = let w = wrote in rw (w.1.1, w.0) (omega (arith, w.1.0, length-overlay out 0 (flatten (solutions ws))))

  listed-front : take (n * length (variables ws)) (solutions_listed ws out) ≡ flatten (solutions ws)
  unfolding solutions_listed
  listed-front =
      let w = wrote in
      let k : n * length (variables ws) ≡ length (flatten (solutions ws)) = ap (λ (m : ℕ). m * length (variables ws)) w.0 ∙ sym size in
      rw (w.1.1, k) (front-over out (flatten (solutions ws)) (omega (arith, size, w.1.0)))

  -- THE LAW
  pub lists_all : Lists ws n (solutions_listed ws out)
  lists_all =
      record {
        lists = solutions ws;
        counted = wrote.0;
        written = listed-front;
        exactly = λ vs. (λ m. (complete ws vs).0 (member-of vs (solutions ws) m), λ s. of-member vs (solutions ws) ((complete ws vs).1 s));
        in_order = ordered (solutions ws) (sorted-solutions ws);
      }

pub all_of : (ws : List ℕ) (before : List ℤ) {after : List ℤ} {answer : Answer} → answer ≡ solutions_answer ws (length before) → after ≡ solutions_listed ws before → AllSolutions ws answer after
all_of ws before e f n g = rw f (lists_all ws before n (sym e ∙ g))

pub front_of : (ws : List ℕ) (before after : List ℤ) (r : Result ℕ error.Refusal) → written_of r ≡ solutions_answer ws (length before) → after ≡ solutions_listed ws before →
    IfOk r (λ n. n * length (variables ws) ≤ length after) × IfOk r (λ n. take (n * length (variables ws)) after ≡ flatten (solutions ws))
front_of ws before after (Ok n) e f = rw f (listed-fits ws before n (sym e), listed-front ws before n (sym e))
front_of ws before after (Err r) e f = (tt, tt)
