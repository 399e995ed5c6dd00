-- Lists of zeros that have room for the variables of accepted words.
use Rattle.std.proofs.Common.{◌≡◌, refl, Bool, true, false, List, [], ◌∷◌, ℕ, suc, ◌≤◌, min, arith, eqb, length, replicate}
use lib.ListN.{length-replicate}
use Rattle.integers.specs.Choice.{◌if◌else◌}
use Rattle.integers.specs.Bounds.{◌to◌, bit}
use Rattle.integers.specs.declared.Bounds.{Bounds}
use Rattle.words.specs.Kind as Kind
use Rattle.words.specs.Word.{kind, signed, word_at}
use Rattle.words.specs.Variables.{starts_pair, variables}
use Rattle.words.specs.Refusal.{accepted}
use Rattle.rowsystems.specs.Reading.{read_rows}
use Rattle.rowsystems.proofs.FewVariables.{few-variables}
use Rattle.bittables.specs.BitTables.{firsts, counts}
use Rattle.bittables.proofs.Bits.{none, firsts-none, counts-none}

-- a variable has a word of its own
fewer-than-words : (ws : List ℕ) → length (variables ws) ≤ length ws
unfolding variables
fewer-than-words [] = omega arith
fewer-than-words (w ∷ ws) = go (starts_pair w) (eqb (kind w) Kind.boolean) (fewer-than-words ws)
  where
    go : (t u : Bool) → length (variables ws) ≤ length ws → length ((signed w to signed (word_at ws 0)) ∷ variables ws if t else bit ∷ variables ws if u else variables ws) ≤ suc (length ws)
    go true u h = omega (arith, h)
    go false true h = omega (arith, h)
    go false false h = omega (arith, h)

pub room-for : (ws : List ℕ) (size : ℕ) → read_rows ws ≡ accepted → min (length ws) 4096 ≤ size → length (variables ws) ≤ size
room-for ws size r h = omega (arith, h, fewer-than-words ws, few-variables ws r)

-- ---- new lists of n elements

pub domains-none : {Ds : List Bounds} {d e : Bounds} (n : ℕ) → Ds ≡ replicate n d → d ≡ e → Ds ≡ replicate (length Ds) e
domains-none {Ds} {d} {e} n p q = rw (p, q, length-replicate n e) refl

pub bits-none : {Ds : List Bounds} (d : Bounds) (n : ℕ) → Ds ≡ replicate n d → (firsts (replicate n none) ≡ replicate (length Ds) 0) × (counts (replicate n none) ≡ replicate (length Ds) 0)
bits-none {Ds} d n p = rw (p, length-replicate n d) (firsts-none n, counts-none n)
