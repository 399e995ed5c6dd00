-- The words of bytes, one after another, laid over a list.
use Rattle.std.proofs.Common.{◌≡◌, refl, ap, sym, ◌∙◌, List, [], ◌∷◌, ℕ, suc, ◌+◌, ◌-◌, ◌≤◌, ◌<◌, arith, length, drop, get_or, set, length-drop, drop-cons}
use Rattle.words.specs.Overlay.{overlay}
use Rattle.encoding.specs.Bytes.{bytes_word, bytes_words}

-- fewer than four bytes have no word
few : (bytes : List ℕ) → length bytes < 4 → bytes_words bytes ≡ []
unfolding bytes_words
few [] l = refl
few (a ∷ []) l = refl
few (a ∷ b ∷ []) l = refl
few (a ∷ b ∷ c ∷ []) l = refl
few (a ∷ b ∷ c ∷ d ∷ rest) l = absurd (omega arith)

module _ (bytes : List ℕ) where
  -- the word of the four bytes at a place
  abbrev pub word_from : ℕ → ℕ
  word_from at = bytes_word (get_or bytes at 0) (get_or bytes (at + 1) 0) (get_or bytes (at + 2) 0) (get_or bytes (at + 3) 0)

  byte : (at next : ℕ) → next ≡ suc at → at < length bytes → drop at bytes ≡ get_or bytes at 0 ∷ drop next bytes
  byte at next e l = rw e (drop-cons bytes at 0 l)

  -- the words from a place on: that one, then the rest
  next : (at : ℕ) → at + 4 ≤ length bytes → bytes_words (drop at bytes) ≡ word_from at ∷ bytes_words (drop (at + 4) bytes)
  unfolding bytes_words
  next at l =
      rw (
        byte at (at + 1) (omega arith) (omega arith),
        byte (at + 1) (at + 2) (omega arith) (omega arith),
        byte (at + 2) (at + 3) (omega arith) (omega arith),
        byte (at + 3) (at + 4) (omega arith) (omega arith),
      )

-- one word laid, then the rest
one : (out : List ℕ) (i w : ℕ) (ws : List ℕ) → overlay out i (w ∷ ws) ≡ overlay (set out i w) (i + 1) ws
unfolding overlay
one out i w ws = let e : suc i ≡ i + 1 = omega arith in ap (λ (n : ℕ). overlay (set out i w) n ws) e

-- The words of the bytes before `at` are laid, i of them: laying the rest gives what laying them all gives.
pub record Laying (bytes before out : List ℕ) (i at : ℕ) : Type 0 where
  pub inside : at ≤ length bytes
  pub fewer : i ≤ at
  pub count : i + length (bytes_words (drop at bytes)) ≡ length (bytes_words bytes)
  pub words : overlay out i (bytes_words (drop at bytes)) ≡ overlay before 0 (bytes_words bytes)

module _ {bytes before out : List ℕ} {i at : ℕ} (s : Laying bytes before out i at) where
  pub more : at + 4 ≤ length bytes → Laying bytes before (set out i (word_from bytes at)) (i + 1) (at + 4)
  more l =
      let e = next bytes at l in
      record {
        inside = l;
        fewer = omega (arith, s.fewer);
        count = omega (arith, rw e at s.count);
        words = sym (one out i _ _) ∙ rw e at s.words;
      }

  pub done : length bytes - at < 4 → (i ≡ length (bytes_words bytes)) × (out ≡ overlay before 0 (bytes_words bytes))
  unfolding overlay
  done l =
      let e : bytes_words (drop at bytes) ≡ [] = few (drop at bytes) (rw (length-drop at bytes) l) in
      (omega (arith, rw e at s.count), rw e at s.words)

pub begun : (bytes out : List ℕ) → Laying bytes out out 0 0
begun bytes out = record { inside = omega arith; fewer = omega arith; count = omega arith; words = refl }
