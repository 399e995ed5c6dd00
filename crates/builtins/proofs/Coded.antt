-- The builtin of a code that is none is true of all values.
use Rattle.std.proofs.Common.{◌≡◌, refl, sym, true, List, ℕ}
use Rattle.integers.specs.Terms.{Valuation}
use Rattle.integers.proofs.Tests.{says-equal}
use Rattle.models.specs.Meaning.{meaning}
use Rattle.models.proofs.AllCodes.{Unknown, no_builtin}
use Rattle.builtins.specs.Coded.{builtin_of}

pub no_code : (σ : Valuation) (code : ℕ) (ws : List ℕ) → Unknown code → true ≡ meaning σ (builtin_of code ws)
unfolding meaning
no_code σ code ws h = rw (no_builtin code ws h) (sym ((says-equal (σ 0) (σ 0)).1 refl))
