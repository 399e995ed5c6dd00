-- 02, wish 2: every coefficient, constant and bound that translate writes has its opposite in the range.
use Rattle.std.proofs.Common.{◌≡◌, true, List, ℕ}
use Rattle.integers.specs.Number.{neg}
use Rattle.integers.proofs.Lists.{all_implies}
use Rattle.integers.proofs.Tests.{All}
use Rattle.words.specs.Word.{kind, signed, in_range}
use Rattle.words.proofs.Range.{is_signed, NumberIn, opposite}
use Rattle.rowsystems.proofs.Numbers.{all-number_in}
use Rattle.rules.specs.Translation.{system_words}
use Rattle.sharing.specs.SharedSolutions.{Passes}
use Rattle.sharing.proofs.Theorem.{written_read}

-- of a word with a signed payload
abbrev pub OppositeIn : ℕ → Type 0
OppositeIn w = is_signed (kind w) ≡ true → in_range (neg (signed w)) ≡ true

pub opposites : (ws : List ℕ) → Passes ws → All OppositeIn (system_words ws)
opposites ws passes =
    all_implies NumberIn OppositeIn (λ w h s. opposite (signed w) (h s)) (system_words ws)
    (all-number_in (system_words ws) (written_read ws passes))
