-- What a program prints, by the answer of its call: the front of its page.
use Rattle.std.proofs.Common.{◌≡◌, sym, ap, ◌∙◌, List, ℕ, ◌*◌, ◌≤◌, ◌<◌, arith, eqb, length, take, length-take, length-take-le, Result, Ok, Err, ne_eqb, lt-ltb, le-ltb}
use Rattle.integers.specs.Choice.{◌if◌else◌}
use Rattle.words.specs.Answer.{refused, written, ◌else_answer◌}
use Rattle.words.specs.Fault as Fault
use Rattle.words.specs.Faults.{fault_number, written_of}
use Rattle.words.specs.LaidAt.{LaidAt}
use Rattle.words.specs.Overlay.{overlay}
use Rattle.words.specs.Refusal.{◌at_place◌, ◌else_refuse◌, room_fault}
use Rattle.words.specs.Refusals.{Refusal}
use Rattle.words.specs.declared.fault.Refusal as error
use Rattle.words.proofs.Overlay.{front-over}
use Rattle.words.proofs.Rest.{laid-length}
use Rattle.words.proofs.Written.{Wrote, wrote-all, fits, front, refused-fault}
use Rattle.lines.specs.Lines.{word_lines, refusal_line, ◌else_print◌, answer_lines}
use Rattle.lines.proofs.Lines.{length-words}

-- the text is the front of a list, and n its length
abbrev pub Front : List ℕ → ℕ → List ℕ → Type 0
Front list n text = (take n list ≡ text) × ((n ≤ length list) × (n ≡ length (take n list)))

-- what is laid over the front of a list that is long enough
pub front-is : {list text later : List ℕ} {end : ℕ} → LaidAt list 0 text later end → end ≤ length list → Front later end text
front-is {list} {text} {later} {end} l h =
    let n = laid-length l in
    let e : end ≡ length text = omega (arith, l.ends) in
    (rw (e, l.over) (front-over list text (omega arith)), (omega arith, sym (length-take-le end later (omega arith))))

same-front : (list text more : List ℕ) (n : ℕ) → Front list n text → text ≡ more → Front list n more
same-front list text more n f e = (f.0 ∙ e, f.1)

-- what a call answers whose text fits a list: a refusal's line, the lines of words of a list
pub front-line : (m p : ℕ) {page later : List ℕ} {end : ℕ} → LaidAt page 0 (refusal_line m p) later end → end ≤ 40 → 40 ≤ length page → Front later end (refusal_line m p)
front-line m p l h n = front-is l (omega arith)

pub front-words : (ws : List ℕ) (n : ℕ) {page later : List ℕ} {end : ℕ} → LaidAt page 0 (word_lines (take n ws)) later end → 9 * length ws ≤ length page → Front later end (word_lines (take n ws))
front-words ws n l h = front-is l (omega (arith, l.ends, length-words (take n ws), length-take n ws))

-- ---- Refusals

print_fault : (f : Refusal) (text : List ℕ) → 0 < f.number → refusal_line f.number f.place ≡ (f else_print text)
unfolding ◌else_print◌
print_fault f text h = rw (ne_eqb f.number 0 (λ e. omega arith))

module _ (f : Refusal) (text : List ℕ) {page later : List ℕ} {m p end : ℕ} (l : LaidAt page 0 (refusal_line m p) later end) (h : end ≤ length page) where
  -- a call answers a refusal, whose fault is the program's; the program finds a fault itself
  pub front-refused : {g : Refusal} (k : ℕ) → refused m p ≡ (g else_answer written k) → g ≡ f → Front later end (f else_print text)
  front-refused {g} k e s =
      let r = refused-fault g m p k e in
      same-front _ _ _ _ (front-is l h) (rw (r.1.0, r.1.1, s) (print_fault f text (rw s at r.0)))

  pub front-fault : 0 < m → f ≡ (m at_place p) → Front later end (f else_print text)
  front-fault z e = same-front _ _ _ _ (front-is l h) (rw e (print_fault (m at_place p) text z))

-- ---- What is written

print_text : (f : Refusal) (text : List ℕ) → f.number ≡ 0 → text ≡ (f else_print text)
unfolding ◌else_print◌
print_text f text e = rw e

-- A call wrote a text, which is the front of its list.
module _ {f : Refusal} {text list later : List ℕ} {n : ℕ} (w : Wrote f text list later n) where
  front-wrote : Front later n text
  front-wrote = (front w, (fits w, sym (length-take-le n later (fits w))))

  -- it is printed
  pub front-text : {g : Refusal} → f ≡ g → Front later n (g else_print text)
  front-text {g} s = same-front _ _ _ _ front-wrote (print_text g text (rw s at (wrote-all w).0))

-- its elements are printed as words, each on a line, or the fault is
pub answered : (f g : Refusal) (text list later : List ℕ) (a : Result ℕ error.Refusal) → written_of a ≡ (f else_answer written (length text)) → later ≡ (overlay list 0 text if eqb f.number Fault.none else list) →
    (f.number ≡ 0 → length text ≤ length list) → f ≡ g → answer_lines a later ≡ (g else_print word_lines text)
unfolding answer_lines
answered f g text list later (Err r) e o room s =
    let k = refused-fault f (fault_number r.fault) r.place (length text) e in
    rw (k.1.0, k.1.1, s) (print_fault g (word_lines text) (rw s at k.0))
answered f g text list later (Ok n) e o room s =
    let w : Wrote f text list later n = record { answer = e; output = o; room = room } in
    ap word_lines (front-wrote w).0 ∙ print_text g (word_lines text) (rw s at (wrote-all w).0)

-- ---- Room

-- more is read than there is room for, or not
too_long : (room n : ℕ) (f : Refusal) → room < n → (room_fault room n else_refuse f) ≡ (Fault.output_too_short at_place 0)
unfolding room_fault ◌else_refuse◌
too_long room n f h = rw (lt-ltb room n h)

pub front_too_long : (room n : ℕ) (f : Refusal) (text : List ℕ) {page later : List ℕ} {end : ℕ} → room < n → LaidAt page 0 (refusal_line Fault.output_too_short 0) later end → end ≤ length page →
    Front later end ((room_fault room n else_refuse f) else_print text)
front_too_long room n f text h l e = front-fault _ text l e (omega arith) (too_long room n f h)

pub short-enough : (room n : ℕ) (f : Refusal) → n ≤ room → f ≡ (room_fault room n else_refuse f)
unfolding room_fault ◌else_refuse◌
short-enough room n f h = rw (le-ltb room n h)
