-- The struct that a call hands a host for each answer. Fields without a use are 0, and so are all of an answer that the call never gives.
use Rattle.std.specs.Prelude.{ℕ}
use Rattle.integers.specs.Choice.{◌if◌else◌}
use Rattle.integers.specs.Number.{+0}
use Rattle.words.specs.Answer.{Answer, refused, counts, written, holds, out_of_bounds, is_false}
use Rattle.reasons.specs.Reason.{Reason, refuse, outside, none, because}
use Rattle.bitanswers.specs.BitEnergy as bits
use Rattle.structs.specs.declared.Counts.{Counts}
use Rattle.structs.specs.declared.Energy.{Energy}
use Rattle.structs.specs.declared.Explanation.{Explanation}
use Rattle.structs.specs.declared.Judgement.{Judgement}
use Rattle.structs.specs.declared.PrintedBytes.{PrintedBytes}
use Rattle.structs.specs.declared.Listed.{Listed}
use Rattle.structs.specs.declared.WrittenValues.{WrittenValues}
use Rattle.structs.specs.declared.WrittenWords.{WrittenWords}

-- Of the judges, fill and value_bits, by what is said: 0 refused, 1 holds (`at` is how many values fill wrote, how many bits value_bits), 2 out of bounds, 3 false.
unfoldable pub judgement_of : Answer → Judgement
judgement_of (refused n p) = record { said = 0; fault = n; at = p }
judgement_of holds = record { said = 1; fault = 0; at = 0 }
judgement_of (written n) = record { said = 1; fault = 0; at = n }
judgement_of (out_of_bounds i) = record { said = 2; fault = 0; at = i }
judgement_of (is_false i) = record { said = 3; fault = 0; at = i }
judgement_of (counts v c a r w) = record { said = 0; fault = 0; at = 0 }

-- Of check.
abbrev pub no_counts : ℕ → ℕ → Counts
no_counts n p = record { fault = n; place = p; variables = 0; constraints = 0; auxiliaries = 0; rows = 0; words = 0 }

unfoldable pub counts_of : Answer → Counts
counts_of (refused n p) = no_counts n p
counts_of (counts v c a r w) = record { fault = 0; place = 0; variables = v; constraints = c; auxiliaries = a; rows = r; words = w }
counts_of (written n) = no_counts 0 0
counts_of holds = no_counts 0 0
counts_of (out_of_bounds i) = no_counts 0 0
counts_of (is_false i) = no_counts 0 0

-- Of the calls that write: a fault, its place, and what the call counts: words, bytes, values or solutions.
unfoldable pub counted_answer : {A : Type 0} → (ℕ → ℕ → ℕ → A) → Answer → A
counted_answer made (refused n p) = made n p 0
counted_answer made (written n) = made 0 0 n
counted_answer made (counts v c a r w) = made 0 0 0
counted_answer made holds = made 0 0 0
counted_answer made (out_of_bounds i) = made 0 0 0
counted_answer made (is_false i) = made 0 0 0

-- Of translate, text, bits and best_bits; of sheet; of bit_values; of solutions.
unfoldable pub written_words_of : Answer → WrittenWords
written_words_of = counted_answer (λ n p k. record { fault = n; place = p; words = k })

unfoldable pub printed_of : Answer → PrintedBytes
printed_of = counted_answer (λ n p k. record { fault = n; place = p; bytes = k })

unfoldable pub written_values_of : Answer → WrittenValues
written_values_of = counted_answer (λ n p k. record { fault = n; place = p; values = k })

unfoldable pub listed_of : Answer → Listed
listed_of = counted_answer (λ n p k. record { fault = n; place = p; solutions = k })

-- Of bit_energy.
unfoldable pub energy_struct_of : bits.EnergyAnswer → Energy
energy_struct_of (bits.refused n p) = record { fault = n; place = p; energy = +0 }
energy_struct_of (bits.energy_is e) = record { fault = 0; place = 0; energy = e }

-- Of reason, by the reason: 0 refused, 1 none, 2 out of bounds, 3 the builtin is false, 4 it is true and auxiliaries in the row are wrong.
unfoldable pub explanation_of : Reason → Explanation
explanation_of (refuse n p) = record { reason = 0; fault = n; place = p; row = 0; constraint = 0 }
explanation_of none = record { reason = 1; fault = 0; place = 0; row = 0; constraint = 0 }
explanation_of (outside i) = record { reason = 2; fault = 0; place = i; row = 0; constraint = 0 }
explanation_of (because k j true_of_sources) = record { reason = 4 if true_of_sources else 3; fault = 0; place = 0; row = k; constraint = j }
