-- What check's answer says of translate's: a refusal that stands, fault 16, or the words of the row system, which share the model's solutions.
use Rattle.std.proofs.Common.{◌≡◌, List, [], ◌∷◌, ◌++◌, ℕ, ◌+◌, ◌≤◌, ◌<◌, arith, length, length-append, lt-ltb, le-ltb, ne_eqb}
use Rattle.words.specs.Word.{word}
use Rattle.words.specs.Kind as Kind
use Rattle.words.specs.Overlay.{overlay}
use Rattle.words.proofs.Overlay.{front-over}
use Rattle.words.specs.Refusal.{◌at_place◌, ◌else_refuse◌, room_fault}
use Rattle.words.specs.Answer.{Answer, refused, written, ◌else_answer◌}
use Rattle.models.specs.Model.{source_words}
use Rattle.rules.specs.Translation.{system_words, all_blocks}
use Rattle.rules.specs.Check.{check}
use Rattle.rules.specs.Translate.{translate_fault_in, translate, translate_in, translated, translated_in}
use Rattle.rules.specs.InRange.{translate_fault}
use Rattle.sharing.specs.SharedSolutions.{Passes, SharedSolutions}
use Rattle.sharing.specs.ExactlyOne.{ExactlyOne, AsManySolutions}
use Rattle.sharing.proofs.Theorem.{shared-solutions, exactly-one, as_many_solutions}
use Rattle.checking.proofs.Answers.{clash, refused-first, check-stands}
use Rattle.translation.specs.Shares.{Shares}
use Rattle.translation.proofs.Over.{three-over}

-- ---- how the words of the row system are made up

module _ (ws : List ℕ) where
  abbrev End : List ℕ
  End = word Kind.rows_end 0 ∷ []

  pub system-length : length (system_words ws) ≡ length (source_words ws) + length (all_blocks ws) + 1
  unfolding system_words
  system-length = omega (arith, length-append (source_words ws) (all_blocks ws ++ End), length-append (all_blocks ws) End)

  pub system-over : (out : List ℕ) → overlay (overlay (overlay out 0 (source_words ws)) (length (source_words ws)) (all_blocks ws)) (length (source_words ws) + length (all_blocks ws)) End ≡ overlay out 0 (system_words ws)
  unfolding system_words
  system-over out = three-over out (source_words ws) (all_blocks ws) End

-- ---- translate's promise, by what is refused

abbrev pub Promise : List ℕ → List ℕ → Answer → List ℕ → Type 0
Promise ws out answer out' = (answer ≡ translate ws (length out)) × ((out' ≡ translated ws out) × Shares ws answer out')

module _ (ws out : List ℕ) where
  refuses : {n p : ℕ} → (n ≡ 0 → ⊥) → translate_fault ws (length out) ≡ (n at_place p) → Promise ws out (refused n p) out
  unfolding translate_in translated_in ◌else_answer◌
  refuses {n} {p} f e = (rw e (refused-first n p _ f), (rw (e, ne_eqb n 0 f), λ m g. clash (cc)))

  -- check's refusal stands
  pub stands : {n p : ℕ} → refused n p ≡ check ws → Promise ws out (refused n p) out
  unfolding translate_fault_in
  stands e = let h = check-stands ws e in refuses h.0 (h.1 _)

  -- 16
  pub too_short : Passes ws → length out < length (system_words ws) → Promise ws out (refused 16 0) out
  unfolding translate_fault_in room_fault ◌else_refuse◌
  too_short h l = refuses (λ z. omega arith) (rw (h, lt-ltb (length out) (length (system_words ws)) l))

  -- the words are written
  pub writes : Passes ws → length (system_words ws) ≤ length out → Promise ws out (written (length (system_words ws))) (overlay out 0 (system_words ws))
  unfolding translate_in translated_in translate_fault_in room_fault ◌else_refuse◌ ◌else_answer◌
  writes h l =
      let f = le-ltb (length out) (length (system_words ws)) l in
      let shares : SharedSolutions ws (system_words ws) × ExactlyOne ws (system_words ws) × AsManySolutions ws (system_words ws) = (shared-solutions ws h, exactly-one ws h, as_many_solutions ws h) in
      (rw (h, f), (rw (h, f), λ m g. let e : m ≡ length (system_words ws) = cc in rw (e, front-over out (system_words ws) l) shares))
