-- What reading says of the sheet's answer: a refusal stands; else 16, or the text is written.
use Rattle.std.proofs.Common.{◌≡◌, List, ℕ, ◌≤◌, ◌<◌, arith, length, lt-ltb, le-ltb, ne_eqb}
use Rattle.words.specs.Overlay.{overlay}
use Rattle.words.specs.Refusal.{◌at_place◌, accepted, ◌else_refuse◌, room_fault}
use Rattle.words.specs.Answer.{Answer, refused, written, ◌else_answer◌}
use Rattle.words.specs.Refusals.{Refusal}
use Rattle.words.proofs.Answers.{first-answers}
use Rattle.words.proofs.Reading.{some-fault}
use Rattle.rowsystems.specs.Reading.{read_rows}
use Rattle.sheets.specs.Sheet.{sheet_text, sheet_fault, sheet, sheet_page}
use Rattle.sheets.specs.EightyColumns.{EightyColumns}
use Rattle.sheets.proofs.EightyColumns.{columns_of}

module _ (ws page : List ℕ) where
  -- the answer, and the page afterwards
  abbrev pub Promise : Answer → List ℕ → Type 0
  Promise given later = record { answer : given ≡ sheet ws (length page); page : later ≡ sheet_page ws page; lines : EightyColumns given later }

  promise : {given : Answer} {later : List ℕ} → given ≡ sheet ws (length page) → later ≡ sheet_page ws page → Promise given later
  promise e f = record { answer = e; page = f; lines = columns_of ws page e f }

  refuses : (n p : ℕ) (after : Refusal) → (n ≡ 0 → ⊥) → sheet_fault ws (length page) ≡ (n at_place p else_refuse after) → Promise (refused n p) page
  unfolding sheet sheet_page ◌else_refuse◌
  refuses n p after f e = promise (rw e (first-answers n p after _ f)) (rw (e, ← some-fault n p after f, ne_eqb n 0 f))

  pub stands : (n p : ℕ) → (n ≡ 0 → ⊥) → n at_place p ≡ read_rows ws → Promise (refused n p) page
  unfolding sheet_fault
  stands n p f e = refuses n p (room_fault (length page) (length (sheet_text ws))) f (rw (← e))

  module _ (e : accepted ≡ read_rows ws) where
    pub too_short : length page < length (sheet_text ws) → Promise (refused 16 0) page
    unfolding sheet_fault room_fault ◌else_refuse◌
    too_short l = refuses 16 0 accepted (λ x. omega arith) (rw (← e, lt-ltb (length page) (length (sheet_text ws)) l))

    pub writes : length (sheet_text ws) ≤ length page → Promise (written (length (sheet_text ws))) (overlay page 0 (sheet_text ws))
    unfolding sheet sheet_page sheet_fault room_fault ◌else_refuse◌ ◌else_answer◌
    writes l = let f = le-ltb (length page) (length (sheet_text ws)) l in promise (rw (← e, f)) (rw (← e, f))
