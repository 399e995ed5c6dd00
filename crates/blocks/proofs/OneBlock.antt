-- One constraint: what its block counts that was laid from nothing, its width, whose rule its block is, and that its place plays no part.
use Rattle.std.proofs.Common.{◌≡◌, refl, ap, ◌∙◌, ◌⊎◌, inl, inr, Bool, true, false, ◌&&◌, ◌||◌, List, [], ◌∷◌, ℕ, ◌≤◌, arith, ltb, eqb, length, ltb-false, eqb-true, ne_eqb}
use Rattle.integers.specs.Choice.{◌if◌else◌}
use Rattle.integers.specs.Lists.{any}
use Rattle.integers.specs.Bounds.{width, bounds_in}
use Rattle.integers.specs.declared.Bounds.{Bounds}
use Rattle.integers.proofs.Booleans.{or-false, or-true}
use Rattle.models.specs.Model.{Constraint, var, builtin}
use Rattle.builtins.specs.Coded.{builtin_of}
use Rattle.models.specs.Codes.{code_number}
use Rattle.models.specs.declared.code.Code.{Code}
use Rattle.models.specs.declared.code.Code.TheVariants as C
use Rattle.rowsystems.specs.Row.{Row, sum≤0, sum=0, product}
use Rattle.rules.specs.Block.{Ref, Block, block_words}
use Rattle.rules.specs.InRange.{outside}
use Rattle.rules.specs.Rule.{rule}
use Rattle.rules.specs.Shared.{Encoded, choice, shares, shared_rule, rule_after}
use Rattle.rules.specs.Translation.{block_of}
use Rattle.rules.specs.Check.{too_wide}
use Rattle.laying.specs.Part.{block_parts, size_in}
use Rattle.laying.specs.Appends.{some_outside, AppendsFitting, GrowsBy, nothing}
use Rattle.laying.specs.Writes.{Writes, WritesFitting}
use Rattle.laying.specs.declared.Writer.{Writer}
use Rattle.laying.specs.Sizes.{block_size}
use Rattle.laying.specs.declared.Laid.{Laid}
use Rattle.laying.proofs.Written.{wrote-fitting}
use Rattle.laying.proofs.Blocks.{words_in-block_parts, block-auxiliaries, block-rows, block-outside}
use Rattle.sharing.proofs.Sizes.{total, row_size, block-length}
use Rattle.sharing.proofs.ChoicesSizes.{block-short}
use Rattle.models.specs.declared.constraint.Constraint as given
use Rattle.encodings.specs.declared.context.Context.{Context}
use Rattle.encodings.specs.Uses.{choice_of, choosing, shared_by}
use Rattle.encodings.proofs.Record.{encodes-by, shares-by}
use Rattle.models.proofs.AllCodes.{same-code}
use Rattle.blocks.specs.Coded.{constraint_of, block_by, has_all}

-- ---- a block that was laid from nothing

pub record Told (first : ℕ) (B : Block) (r : Laid) : Type 0 where
  pub words : r.words ≡ length (block_words first B)
  pub auxiliaries : r.auxiliaries ≡ length B.auxiliaries
  pub rows : r.rows ≡ length B.rows
  pub outside-is : some_outside r ≡ outside B

pub told : {first : ℕ} {B : Block} {r : Laid} {o o' : List ℕ} → AppendsFitting nothing r o o' (block_parts first B) → Told first B r
told {first} {B} w = record {
  words = omega (arith, w.counted.words, ap length (words_in-block_parts first B));
  auxiliaries = omega (arith, w.counted.auxiliaries, block-auxiliaries first B);
  rows = omega (arith, w.counted.rows, block-rows first B);
  outside-is = w.counted.outside ∙ block-outside first B;
}

-- ---- there is room for the counts of a block

few_rows : (qs : List (Row Ref)) → length qs ≤ total row_size qs
few_rows [] = omega arith
few_rows (q ∷ qs) = omega (arith, some q, few_rows qs)
  where
    some : (q : Row Ref) → 1 ≤ row_size q
    some (sum≤0 ts c) = omega arith
    some (sum=0 ts c) = omega arith
    some (product r f g) = omega arith

pub few_parts : (first : ℕ) (β : ℕ → Bounds) (s : ℕ → Bool) (e : Encoded) (c : Constraint) → too_wide β s c ≡ false → size_in (block_parts first (block_of β s e c)) ≤ block_size
unfolding size_in
few_parts first β s e c w =
    let B = block_of β s e c in
    omega (arith, block-short first β s e c w, block-length first B, few_rows B.rows, ap length (words_in-block_parts first B), block-auxiliaries first B, block-rows first B)

pub grown : (first : ℕ) (B : Block) {r : Laid} {o o' : List ℕ} → size_in (block_parts first B) ≤ block_size → AppendsFitting nothing r o o' (block_parts first B) → GrowsBy block_size nothing r
unfolding size_in
grown first B h w = omega (arith, h, w.counted.words, w.counted.auxiliaries, w.counted.rows)

-- ---- fault 12

module _ (β : ℕ → Bounds) (s : ℕ → Bool) (c : Constraint) where
  abbrev x : ℕ
  x = var c.arguments 0

  pub wide_by : too_wide β s c ≡ (has_all s c.code c.arguments && ltb 64 (width (β x)))
  unfolding too_wide any has_all
  wide_by = rw (encodes-by c) (go (choosing c.code))
    where
      go : (b : Bool) → any (λ x. (eqb c.code 28 || s x) && ltb 64 (width (β x))) (x ∷ [] if b else []) ≡ ((b && (eqb c.code 28 || s x)) && ltb 64 (width (β x)))
      go true = or-false ((eqb c.code 28 || s x) && ltb 64 (width (β x)))
      go false = refl

  pub narrow : too_wide β s c ≡ false → has_all s c.code c.arguments ≡ true → width (β x) ≤ 64
  narrow t a = ltb-false 64 _ (rw (wide_by, a) at t)

pub all-28 : (s : ℕ → Bool) {code : ℕ} (args : List ℕ) → code ≡ 28 → has_all s code args ≡ true
unfolding has_all choosing
all-28 s args e = rw e refl

-- whether a constraint has an auxiliary for each value: 28 has, another one where it chooses by a shared variable
pub has_by : (s : ℕ → Bool) (c : Code) (args : List ℕ) → (c ≡ C.SetInReif → ⊥) → has_all s (code_number c) args ≡ shares s (choice_of (code_number c) args)
unfolding has_all
has_by s c args n = rw (shares-by s (code_number c) args, ne_eqb (code_number c) 28 (λ e. n (same-code e))) (go (choosing (code_number c)))
  where
    go : (b : Bool) → (b && s (var args 0)) ≡ (s (var args 0) if b else false)
    go true = refl
    go false = refl

-- a code that chooses by a shared variable
pub shared-narrow : (β : ℕ → Bounds) (s : ℕ → Bool) (code : ℕ) (args : List ℕ) → too_wide β s (constraint_of code args) ≡ false → choosing code ≡ true → s (var args 0) ≡ true → width (β (var args 0)) ≤ 64
unfolding has_all
shared-narrow β s code args w h t = narrow β s (constraint_of code args) w (rw (h, t) (or-true (eqb code 28)))

-- ---- whose rule the block is

module _ (β : ℕ → Bounds) (s : ℕ → Bool) (e : Encoded) (code : ℕ) (args : List ℕ) where
  by-shares : block_of β s e (constraint_of code args) ≡ (shared_rule β e (choice_of code args) if (s (var args 0) if choosing code else false) else rule β (builtin_of code args))
  unfolding block_of rule_after choice_of builtin
  by-shares = rw (← shares-by s code args)

  -- a code that chooses by a shared variable
  pub over-shared : choosing code ≡ true → s (var args 0) ≡ true → block_of β s e (constraint_of code args) ≡ shared_rule β e (choice_of code args)
  over-shared h t = by-shares ∙ rw (h, t)

  -- a code that chooses by a variable that is not shared; one that does not choose
  pub over-own : choosing code ≡ true → s (var args 0) ≡ false → block_of β s e (constraint_of code args) ≡ rule β (builtin_of code args)
  over-own h t = by-shares ∙ rw (h, t)

  pub over_none : choosing code ≡ false → block_of β s e (constraint_of code args) ≡ rule β (builtin_of code args)
  over_none h = by-shares ∙ rw h

-- what wrote the rule of a known code that chooses by no variable wrote the block of the constraint
module _ (k : Context) (x : given.Constraint) {w r : Writer} {d : Code} (is : x.code ≡ d) (n : choosing (code_number d) ≡ false) where
  pub wrote_fitting : WritesFitting w r (block_parts k.first (rule (bounds_in k.domains.now) (builtin_of (code_number d) x.args.now))) →
      WritesFitting w r (block_parts k.first (block_by k x))
  wrote_fitting h = rw (is, over_none (bounds_in k.domains.now) (shared_by k.uses.now) k.encoded.now (code_number d) x.args.now n) h

  pub wrote : Writes w r (block_parts k.first (rule (bounds_in k.domains.now) (builtin_of (code_number d) x.args.now))) →
      WritesFitting w r (block_parts k.first (block_by k x))
  wrote h = rw (is, over_none (bounds_in k.domains.now) (shared_by k.uses.now) k.encoded.now (code_number d) x.args.now n) (wrote-fitting h)

-- ---- codes that choose

pub chooses : {c : Code} → (c ≡ C.ArrayIntElement) ⊎ ((c ≡ C.ArrayVarIntElement) ⊎ ((c ≡ C.SetIn) ⊎ (c ≡ C.SetInReif))) → choosing (code_number c) ≡ true
unfolding choosing
chooses (inl e) = rw e refl
chooses (inr (inl e)) = rw e refl
chooses (inr (inr (inl e))) = rw e refl
chooses (inr (inr (inr e))) = rw e refl

-- of the codes that choose, 28 is the fourth
pub fourth : (code : ℕ) → choosing code ≡ true → (code ≡ 24 → ⊥) → (code ≡ 25 → ⊥) → (code ≡ 27 → ⊥) → code ≡ 28
unfolding choosing
fourth code h a b d = eqb-true code 28 (rw (ne_eqb code 24 a, ne_eqb code 25 b, ne_eqb code 27 d) at h)

-- ---- the constraint of a code and the words after its head

module _ (β : ℕ → Bounds) (s : ℕ → Bool) (c : Constraint) where
  pub placed-wide : too_wide β s c ≡ false → too_wide β s (constraint_of c.code c.arguments) ≡ false
  unfolding too_wide choice
  placed-wide h = h

  module _ (first : ℕ) (e : Encoded) where
    pub placed-block : {r : Laid} {o o' : List ℕ} → AppendsFitting nothing r o o' (block_parts first (block_of β s e (constraint_of c.code c.arguments))) →
        AppendsFitting nothing r o o' (block_parts first (block_of β s e c))
    unfolding block_of builtin choice
    placed-block w = w
