-- The words of a row system that translate writes never pass 262,144: 8 for each word of the model, 40 for each auxiliary and 112 for each
-- constraint, after at most two for each variable.
use Rattle.std.proofs.Common.{◌≡◌, Bool, List, [], ◌∷◌, ℕ, ◌+◌, ◌*◌, ◌≤◌, arith, length, length-append}
use Rattle.integers.specs.declared.Bounds.{Bounds}
use Rattle.integers.proofs.Lists.{all_implies}
use Rattle.words.specs.Limit as Limit
use Rattle.words.specs.Refusal.{accepted}
use Rattle.words.proofs.Sources.{Sources, none, integer, boolean}
use Rattle.models.specs.Table as Table
use Rattle.models.specs.Model.{Constraint, constraints, builtin}
use Rattle.models.specs.Reading.{read_model}
use Rattle.models.proofs.Arguments.{builtin_words}
use Rattle.models.proofs.Typed.{counted-at}
use Rattle.models.proofs.Contents.{argument_words}
use Rattle.models.proofs.Accepted.{coded, bounded, total, few-constraints}
use Rattle.rules.specs.Block.{block_words}
use Rattle.rules.specs.Shared.{Encoded}
use Rattle.rules.specs.Translation.{block_of, each_block, blocks_words}
use Rattle.sharing.proofs.ChoicesSizes.{length-block_words}
use Rattle.sharing.proofs.Assembly.{auxiliaries_from, after}
use Rattle.sharing.proofs.Accepts.{Fine}

fewer : (c : Constraint) → (1 ≤ c.code) × (c.code ≤ Table.last) → 1 + builtin_words (builtin c) ≤ 1 * (1 + argument_words c)
unfolding builtin
fewer c h = omega (arith, counted-at c.code h.0 h.1 c.arguments)

-- ---- the words of the blocks

blocks-size : (β : ℕ → Bounds) (s : ℕ → Bool) (first : ℕ) (e : Encoded) (cs : List Constraint) → Fine β s first e cs →
    length (blocks_words β s first e cs) ≤ 8 * total (λ c. 1 + builtin_words (builtin c)) cs + 40 * length (auxiliaries_from β s first e cs) + 112 * length cs
unfolding blocks_words each_block
blocks-size β s first e [] f = omega arith
blocks-size β s first e (c ∷ cs) f =
    let n = first + length (block_of β s e c).auxiliaries in
    let d = after β s first e c in
    omega (
      arith,
      length-append (block_words first (block_of β s e c)) (blocks_words β s n d cs),
      length-append (block_of β s e c).auxiliaries (auxiliaries_from β s n d cs),
      blocks-size β s n d cs f.3,
      length-block_words first β s e c f.0,
    )

-- variables and auxiliaries
pub fine-count : (β : ℕ → Bounds) (s : ℕ → Bool) (first : ℕ) (e : Encoded) (cs : List Constraint) → Fine β s first e cs → first ≤ Limit.in_all →
    first + length (auxiliaries_from β s first e cs) ≤ Limit.in_all
unfolding each_block
fine-count β s first e [] f l = omega arith
fine-count β s first e (c ∷ cs) f l =
    let n = first + length (block_of β s e c).auxiliaries in
    let d = after β s first e c in
    omega (arith, length-append (block_of β s e c).auxiliaries (auxiliaries_from β s n d cs), fine-count β s n d cs f.3 f.2)

pub few_words : (ws : List ℕ) → read_model ws ≡ accepted → (β : ℕ → Bounds) (s : ℕ → Bool) (first : ℕ) (e : Encoded) → Fine β s first e (constraints ws) →
    first + length (auxiliaries_from β s first e (constraints ws)) ≤ Limit.in_all →
    length (blocks_words β s first e (constraints ws)) ≤ 8 * length ws + 40 * Limit.in_all + 112 * Limit.constraints
few_words ws h β s first e f l =
    let words = bounded ws h (λ c. 1 + builtin_words (builtin c)) 1 (all_implies (λ c. (1 ≤ c.code) × (c.code ≤ Table.last)) _ fewer (constraints ws) (coded ws h)) in
    omega (arith, words, blocks-size β s first e (constraints ws) f, few-constraints ws h)

pub sources-short : {ws : List ℕ} {Bs : List Bounds} → Sources ws Bs → length ws ≤ 2 * length Bs
sources-short none = omega arith
sources-short (integer k l o s) = omega (arith, sources-short s)
sources-short (boolean k l s) = omega (arith, sources-short s)
