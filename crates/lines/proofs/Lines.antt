-- Lines, part after part, and how long they are.
use Rattle.std.proofs.Common.{◌≡◌, refl, sym, List, [], ◌∷◌, ◌++◌, append-nil, append_assoc, ℕ, zero, suc, ◌*◌, ◌<◌, ◌≤◌, arith, length, get_or, take, length-append}
use Rattle.decimals.specs.Decimal.{decimal}
use Rattle.decimals.proofs.Digits.{decimal-length}
use Rattle.hexadecimal.specs.Digits.{digits}
use Rattle.lines.specs.Lines.{word_line, word_lines}

-- a word's line
pub length-word : (w : ℕ) → length (word_line w) ≡ 9
unfolding word_line digits
length-word w = refl

-- the lines of the words before the next one, then its line
pub words_more : (ws : List ℕ) (k : ℕ) → k < length ws → word_lines (take (suc k) ws) ≡ word_lines (take k ws) ++ word_line (get_or ws k 0)
unfolding word_lines
words_more [] k h = absurd (omega arith)
words_more (w ∷ ws) zero h = append-nil (word_line w)
words_more (w ∷ ws) (suc k) h = rw (words_more ws k (omega arith)) (sym (append_assoc (word_line w) _ _))

pub length-words : (ws : List ℕ) → length (word_lines ws) ≡ 9 * length ws
unfolding word_lines
length-words [] = refl
length-words (w ∷ ws) = omega (arith, length-append (word_line w) (word_lines ws), length-word w, length-words ws)

-- a number of 32 bits has at most 10 digits, one of 64 bits at most 20
pub number_fits : (n : ℕ) → n < 4294967296 → length (decimal n) ≤ 10
number_fits n h = decimal-length 9 n (omega arith)

pub place_fits : (n : ℕ) → n < 18446744073709551616 → length (decimal n) ≤ 20
place_fits n h = decimal-length 19 n (omega arith)
