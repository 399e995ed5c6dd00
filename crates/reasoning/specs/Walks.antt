-- What the walks over the blocks stand on, and what one block says.
use Rattle.std.specs.Prelude.{◌≡◌, Bool, true, false, List, [], ◌∷◌, ◌++◌, map, ℕ, ◌+◌, ◌*◌, ◌<◌, ◌≤◌, ℤ, length, take, drop}
use Rattle.integers.specs.Choice.{◌if◌else◌}
use Rattle.integers.specs.Terms.{Valuation, value}
use Rattle.integers.specs.declared.Bounds.{Bounds}
use Rattle.words.specs.Word.{word}
use Rattle.words.specs.Kind as Kind
use Rattle.words.specs.Variables.{variables}
use Rattle.words.specs.Answer.{Answer, refused, counts, written, holds, out_of_bounds, is_false, is_holds}
use Rattle.words.specs.Limit as Limit
use Rattle.words.specs.Refusal.{accepted}
use Rattle.words.specs.Faults.{said_of}
use Rattle.words.specs.Judge.{first_false, first_out_of_bounds}
use Rattle.words.specs.Small.{Small}
use Rattle.models.specs.Meaning.{meaning}
use Rattle.models.specs.Model.{Constraint, constraints, builtin}
use Rattle.models.specs.declared.constraint.Constraint as given
use Rattle.rowsystems.specs.Row.{Row, rename, satisfied}
use Rattle.rowsystems.specs.RowSystem.{rows}
use Rattle.rowsystems.specs.declared.Due.TheVariants.{Item}
use Rattle.rowreading.specs.Onward.{onward}
use Rattle.rules.specs.Block.{Block, block_words, numbered}
use Rattle.rules.specs.InRange.{outside}
use Rattle.rules.specs.Translation.{auxiliaries}
use Rattle.sharing.specs.SharedSolutions.{Passes}
use Rattle.reasons.specs.Reason.{none, explained, in_block, first_failing}
use Rattle.laying.specs.Sizes.{block_size}
use Rattle.laying.specs.declared.Laid.{Laid}
use Rattle.encodings.specs.declared.context.Context.{Context}
use Rattle.blocks.specs.Coded.{block_by, Layable}
use Rattle.checking.specs.ReadModel.{Listed}
use Rattle.checking.specs.declared.read.ReadModel.{ReadModel}
use Rattle.reasoning.specs.declared.Said.{Said}
use Rattle.reasoning.specs.declared.Stopped.{Stopped}

-- the most words of a block
abbrev pub block_words_most : ℕ
block_words_most = 2800

-- a block's words and an end word; its rows, numbered
abbrev pub block_and_end : ℕ → Block → List ℕ
block_and_end first B = block_words first B ++ (word Kind.rows_end 0 ∷ [])

abbrev pub rows_at : ℕ → Block → List (Row ℕ)
rows_at first B = map (rename (numbered first)) B.rows

-- they are few, all numbers are in the range, the bounds are read first, then the rows
pub record ReadsBack (first : ℕ) (B : Block) : Type 0 where
  pub few : length (block_words first B) ≤ block_words_most
  pub fits : outside B ≡ false
  pub the_bounds : variables (block_and_end first B) ≡ B.auxiliaries
  pub bounds_first : 2 * length B.auxiliaries ≤ length (block_words first B)
  pub no_more : variables (drop (2 * length B.auxiliaries) (block_and_end first B)) ≡ []
  pub the_rows : rows (drop (2 * length B.auxiliaries) (block_and_end first B)) ≡ rows_at first B
  pub accepts : onward Item (first + length B.auxiliaries) (2 * length B.auxiliaries) (block_and_end first B) ≡ accepted

-- a block that can be laid and read again
pub record Readable (k : Context) (c : given.Constraint) (S : Bounds) : Type 0 where
  pub near : k.first ≤ Limit.in_all
  pub layable : Layable k c S
  pub reads : ReadsBack k.first (block_by k c)

-- the words of a block at the front of a list, and what they count
pub record Front (first : ℕ) (B : Block) (r : Laid) (out : List ℕ) : Type 0 where
  pub words : r.words ≡ length (block_words first B)
  pub auxiliaries : r.auxiliaries ≡ length B.auxiliaries
  pub rows : r.rows ≡ length B.rows
  pub small : r.words + r.auxiliaries + r.rows ≤ block_size
  pub front : take (r.words + 1) out ≡ block_and_end first B

-- the number of a variable counted on from k
abbrev pub shift : ℕ → Answer → Answer
shift k (refused n p) = refused n p
shift k (counts v c a r w) = counts v c a r w
shift k (written n) = written n
shift k holds = holds
shift k (out_of_bounds i) = out_of_bounds (k + i)
shift k (is_false i) = is_false i

-- the number of a variable is at most n
abbrev pub AtMost : ℕ → Answer → Type 0
AtMost n (refused m p) = Unit {0}
AtMost n (counts v c a r w) = Unit {0}
AtMost n (written m) = Unit {0}
AtMost n holds = Unit {0}
AtMost n (out_of_bounds i) = i ≤ n
AtMost n (is_false i) = Unit {0}

-- what a block says of the values: the first auxiliary out of its bounds, where the bounds are asked; else the first row that fails, counted from k
abbrev pub said_of_block : Bool → List ℤ → ℕ → ℕ → Block → Answer
said_of_block bounds vs first k B = first_out_of_bounds (value vs) first B.auxiliaries holds if bounds else first_false (satisfied (value vs)) k (rows_at first B)

-- what judging the block of a constraint wants: a list for its words, values of its auxiliaries, and values near 0 where the rows are asked
pub record Judgeable (bounds : Bool) (k : Context) (c : given.Constraint) (S : Bounds) (words : List ℕ) (vs : List ℤ) : Type 0 where
  pub readable : Readable k c S
  pub room : block_words_most + 1 ≤ length words
  pub there : k.first + length (block_by k c).auxiliaries ≤ length vs
  pub small : bounds ≡ false → Small vs

pub record BlockJudged (bounds : Bool) (vs : List ℤ) (first k : ℕ) (B : Block) (r : Said) : Type 0 where
  pub says : said_of r.said ≡ said_of_block bounds vs first k B
  pub auxiliaries : r.auxiliaries ≡ length B.auxiliaries
  pub rows : r.rows ≡ length B.rows
  pub few : r.rows ≤ block_size

-- a model that passes the check, and how many auxiliaries it has
abbrev pub CheckedModel : ReadModel → ℕ → Type 0
CheckedModel r added = Listed r × Passes r.ws.now × (added ≡ length (auxiliaries r.ws.now))

-- a model that passes the check, and as many values as its row system has variables
pub record PassedModel (r : ReadModel) (vs : List ℤ) : Type 0 where
  pub passes : Passes r.ws.now
  pub listed : Listed r
  pub counted : length vs ≡ length (variables r.ws.now) + length (auxiliaries r.ws.now)

-- where a walk over the blocks stops, and the constraint whose block says so: the first auxiliary of all that is out of bounds; else the first row that
-- fails, of which the builtin of that constraint gives the reason
pub record Stops (bounds : Bool) (ws : List ℕ) (vs : List ℤ) (r : Stopped) : Type 0 where
  pub outside : bounds ≡ true → said_of r.said ≡ first_out_of_bounds (value vs) (length (variables ws)) (auxiliaries ws) holds
  pub none_fails : bounds ≡ false → (σ : Valuation) → is_holds (said_of r.said) ≡ true → none ≡ first_failing σ (value vs) 0 0 (explained ws)
  pub one_fails : bounds ≡ false → (σ : Valuation) (c : Constraint) → is_holds (said_of r.said) ≡ false → drop r.constraint (constraints ws) ≡ c ∷ drop (r.constraint + 1) (constraints ws) →
      in_block (said_of r.said) r.constraint (meaning σ (builtin c)) none ≡ first_failing σ (value vs) 0 0 (explained ws)
  pub within : is_holds (said_of r.said) ≡ false → r.constraint < length (constraints ws)
