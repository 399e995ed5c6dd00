-- What a constraint encodes, by its code; the record after its block, and how large the numbers in it are.
use Rattle.std.proofs.Common.{◌≡◌, refl, sym, Bool, true, false, ◌&&◌, ◌||◌, List, [], ◌∷◌, ℕ, ◌<◌, arith, eqb, ne_eqb, length, get_or, set, length-set, get_or-set_same, get_or-set_other}
use native.Mathlib.Decide.{ℕ_discrete, dec_lt}
use lib.ListN.{length-replicate}
use lib.Seq.{set_out}
use Rattle.integers.specs.Choice.{◌if◌else◌}
use Rattle.integers.specs.Lists.{any}
use Rattle.integers.proofs.Booleans.{or-false}
use Rattle.integers.proofs.Places.{get_or-replicate_same}
use Rattle.models.specs.Model.{Constraint, var, vars, nums, past}
use Rattle.models.specs.declared.code.Code.TheVariants as of_code
use Rattle.models.proofs.AllCodes.{Unknown}
use Rattle.rules.specs.Shared.{of_element, of_var_element, of_set, of_set_reif, no_choice, choice, encodes, shares, Encoded, none_yet, first_of, encoded_after}
use Rattle.encodings.specs.Uses.{choice_of, choosing, Recorded}

-- what a constraint encodes, by its code
pub encodes-by : (c : Constraint) → encodes (choice c) ≡ (var c.arguments 0 ∷ [] if choosing c.code else [])
unfolding choice encodes choosing
encodes-by c = go (eqb c.code 24) (eqb c.code 25) (eqb c.code 27) (eqb c.code 28)
  where
    ws : List ℕ
    ws = c.arguments

    go : (p q r s : Bool) →
        encodes (of_element (var ws 0) (nums ws 1) (var ws (past ws 1)) if p else of_var_element (var ws 0) (vars ws 1) (var ws (past ws 1)) if q else of_set (var ws 0) (nums ws 1) if r else of_set_reif (var ws 0) (nums ws 1) (var ws (past ws 1)) if s else no_choice) ≡ (var c.arguments 0 ∷ [] if p || (q || (r || s)) else [])
    go true q r s = refl
    go false true r s = refl
    go false false true s = refl
    go false false false true = refl
    go false false false false = refl

-- of a constraint that is given by its code and its words
pub encodes-of : (code : ℕ) (args : List ℕ) → encodes (choice_of code args) ≡ (var args 0 ∷ [] if choosing code else [])
unfolding choice_of
encodes-of code args = encodes-by (record { place = 0; code = code; arguments = args })

-- a number that no code has
pub no-choosing : (code : ℕ) → Unknown code → choosing code ≡ false
unfolding choosing
no-choosing code h =
    rw (ne_eqb code 24 (λ e. h of_code.ArrayIntElement (sym e)), ne_eqb code 25 (λ e. h of_code.ArrayVarIntElement (sym e)), ne_eqb code 27 (λ e. h of_code.SetIn (sym e)), ne_eqb code 28 (λ e. h of_code.SetInReif (sym e)))

-- whether its variable is shared
pub shares-by : (s : ℕ → Bool) (code : ℕ) (args : List ℕ) → shares s (choice_of code args) ≡ (s (var args 0) if choosing code else false)
unfolding shares any choice_of
shares-by s code args = rw (encodes-by (record { place = 0; code = code; arguments = args })) (go (choosing code))
  where
    go : (b : Bool) → any s (var args 0 ∷ [] if b else []) ≡ (s (var args 0) if b else false)
    go true = or-false (s (var args 0))
    go false = refl

-- the record after its block
pub record_by : (s : ℕ → Bool) (first : ℕ) (e : Encoded) (code : ℕ) (args : List ℕ) → let x = var args 0 in
    encoded_after s first e (encodes (choice_of code args)) ≡ ((set e x first if eqb (first_of e x) 0 else e) if shares s (choice_of code args) else e)
unfolding encoded_after shares any choice_of
record_by s first e code args = rw (encodes-by (record { place = 0; code = code; arguments = args })) (go (choosing code))
  where
    x : ℕ
    x = var args 0

    old : Bool
    old = eqb (first_of e x) 0

    shared_or_not : (p : Bool) → (set e x first if p && old else e) ≡ ((set e x first if old else e) if p || false else e)
    shared_or_not true = refl
    shared_or_not false = refl

    go : (b : Bool) → encoded_after s first e (x ∷ [] if b else []) ≡ ((set e x first if old else e) if any s (x ∷ [] if b else []) else e)
    go true = shared_or_not (s x)
    go false = refl

pub ruleset no_choosing = (no-choosing)

pub ruleset by_code = (encodes-of, shares-by, record_by)

-- the place of a constraint plays no part
pub placed_record : (s : ℕ → Bool) (first : ℕ) (e : Encoded) (c : Constraint) {d : Encoded} → d ≡ encoded_after s first e (encodes (choice_of c.code c.arguments)) → d ≡ encoded_after s first e (encodes (choice c))
unfolding choice_of choice
placed_record s first e c h = h

-- ---- the record holds numbers of auxiliaries, and keeps its length

-- nothing is recorded yet
pub get_or-none_yet : (v : ℕ) → ◌≡◌ {A = ℕ} (get_or none_yet v 0) 0
get_or-none_yet v = get_or-replicate_same {A = ℕ} 256 v 0

pub none-many : length none_yet ≡ 256
none-many = length-replicate {A = ℕ} 256 0

pub recorded-none : Recorded none_yet
recorded-none v = omega (arith, get_or-none_yet v)

pub recorded-after : (s : ℕ → Bool) (first : ℕ) (e : Encoded) (xs : List ℕ) → first < 10000 → Recorded e → Recorded (encoded_after s first e xs)
unfolding encoded_after
recorded-after s first e [] f l v = l v
recorded-after s first e (x ∷ xs) f l v = go (s x && eqb (first_of e x) 0)
  where
    put : Dec (v ≡ x) → Dec (x < length e) → first_of (set e x first) v < 10000
    put (yes p) (yes q) = rw (p, get_or-set_same e x first 0 q) f
    put (yes p) (no n) = rw (set_out e x first (omega (arith, n))) (l v)
    put (no n) d = rw (get_or-set_other e x v first 0 n) (l v)

    go : (b : Bool) → first_of (set e x first if b else e) v < 10000
    go true = put (ℕ_discrete v x) (dec_lt x (length e))
    go false = l v

pub length-after : (s : ℕ → Bool) (first : ℕ) (e : Encoded) (xs : List ℕ) → length (encoded_after s first e xs) ≡ length e
unfolding encoded_after
length-after s first e [] = refl
length-after s first e (x ∷ xs) = go (s x && eqb (first_of e x) 0)
  where
    go : (b : Bool) → length (set e x first if b else e) ≡ length e
    go true = length-set e x first
    go false = refl
