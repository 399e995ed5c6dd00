-- The words of bytes: one for each four of them, the spare ones left off; none is laid before the loop.
use Rattle.std.proofs.Common.{◌≡◌, refl, List, [], ◌∷◌, ℕ, suc, ◌/◌, ◌<◌, arith, length, get_or, map}
use Rattle.std.specs.Simd.{first_chunks}
use Rattle.std.proofs.lemmas.List.{get_or-map}
use Rattle.words.proofs.Rest.{FirstLaid, none-laid}
use Rattle.encoding.specs.Bytes.{bytes_word, bytes_words}

-- a quarter of the bytes
pub quarter : (bytes : List ℕ) → length bytes / 4 ≡ length (bytes_words bytes)
unfolding bytes_words
quarter [] = omega arith
quarter (a ∷ []) = omega arith
quarter (a ∷ b ∷ []) = omega arith
quarter (a ∷ b ∷ c ∷ []) = omega arith
quarter (a ∷ b ∷ c ∷ d ∷ rest) = omega (arith, quarter rest)

-- the word of four bytes
abbrev pub quad_word : List ℕ → ℕ
quad_word q = bytes_word (get_or q 0 0) (get_or q 1 0) (get_or q 2 0) (get_or q 3 0)

by_quads : (bytes : List ℕ) → bytes_words bytes ≡ map quad_word (first_chunks 4 (length bytes / 4) bytes)
unfolding bytes_words
by_quads [] = refl
by_quads (a ∷ []) = refl
by_quads (a ∷ b ∷ []) = refl
by_quads (a ∷ b ∷ c ∷ []) = refl
by_quads (a ∷ b ∷ c ∷ d ∷ rest) = let e : length (a ∷ b ∷ c ∷ d ∷ rest) / 4 ≡ suc (length rest / 4) = omega arith in rw (e, by_quads rest)

pub quad_at : (bytes : List ℕ) (quads : List (List ℕ)) (i : ℕ) → quads ≡ first_chunks 4 (length bytes / 4) bytes → i < length quads →
    get_or (bytes_words bytes) i 0 ≡ quad_word (get_or quads i [])
quad_at bytes quads i e h = rw (by_quads, ← e) (get_or-map quad_word quads i [] 0 h)

-- before the loop none of the words is laid, and laying them all is left to do
pub begun : (bytes out : List ℕ) → FirstLaid out 0 (bytes_words bytes) out 0
begun bytes out = none-laid out 0 (bytes_words bytes)
