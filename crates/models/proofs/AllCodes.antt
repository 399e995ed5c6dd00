-- The codes in the order of their numbers. So each number from 1 to the last is that of a code, a number that no code has is 0 or past the last, and two codes with one number are the same.
use Rattle.std.proofs.Common.{◌≡◌, refl, sym, ap, ◌∙◌, Bool, true, false, List, [], ◌∷◌, map, ℕ, zero, suc, ◌-◌, ◌<◌, ◌≤◌, ltb, get_or, arith, ltb-true, ltb-false}
use Rattle.std.proofs.lemmas.List.{get_or-map}
use lib.ListN.{get_or-eq_default}
use Rattle.integers.specs.Lists.{list_of}
use Rattle.integers.proofs.Places.{get_or-list_of}
use Rattle.models.specs.Table.{last}
use Rattle.models.specs.Builtin.{Builtin, int_eq}
use Rattle.models.specs.Model.{builtin, builtins}
use Rattle.models.specs.Codes.{code_number}
use Rattle.models.specs.declared.code.Code.{Code}
use Rattle.models.specs.declared.code.Code.TheVariants as c

abbrev all_codes : List Code
all_codes =
    c.IntEq ∷ c.IntLe ∷ c.IntLt ∷ c.IntNe ∷ c.IntLeReif ∷ c.IntPlus ∷ c.IntTimes ∷ c.IntAbs ∷ c.IntMax ∷
    c.IntLinEq ∷ c.IntLinLe ∷ c.IntLinNe ∷ c.IntLinEqReif ∷ c.IntEqReif ∷ c.IntLinLeReif ∷
    c.Bool2int ∷ c.BoolNot ∷ c.BoolAnd ∷ c.BoolOr ∷ c.BoolXor ∷ c.BoolClause ∷ c.ArrayBoolAnd ∷ c.ArrayBoolXor ∷
    c.ArrayIntElement ∷ c.ArrayVarIntElement ∷ c.ArrayIntMaximum ∷ c.SetIn ∷ c.SetInReif ∷
    c.IntMin ∷ c.IntLtReif ∷ c.IntNeReif ∷ c.IntLinNeReif ∷ c.ArrayIntMinimum ∷ c.BoolEqReif ∷ c.BoolLeReif ∷ c.BoolLtReif ∷
    c.IntDiv ∷ c.IntMod ∷ c.IntPow ∷ []

pub code_at : ℕ → Code
code_at i = get_or all_codes i c.IntEq

in_order : map code_number all_codes ≡ list_of suc last
unfolding list_of
in_order = refl

-- the code of each number from 1 to the last
pub coded : (i : ℕ) → i < last → code_number (code_at i) ≡ suc i
unfolding code_at
coded i h = sym (get_or-map code_number all_codes i c.IntEq 0 h) ∙ ap (λ (l : List ℕ). get_or l i 0) in_order ∙ get_or-list_of suc last i 0 h

-- ---- two codes with one number

read_back : (d : Code) → code_at (code_number d - 1) ≡ d
unfolding code_at
read_back c.IntEq = refl
read_back d = refl

pub same-code : {a b : Code} → code_number a ≡ code_number b → a ≡ b
same-code {a} {b} e = sym (read_back a) ∙ ap (λ (n : ℕ). code_at (n - 1)) e ∙ read_back b

-- ---- a number that no code has, as `TryFrom` says it

abbrev pub Unknown : ℕ → Type 0
Unknown n = (c : Code) → code_number c ≡ n → ⊥

pub past_last : (n : ℕ) → Unknown n → 1 ≤ n → last < n
past_last zero h l = absurd (omega arith)
past_last (suc n) h l = go (ltb n last) refl
  where
    go : (b : Bool) → ltb n last ≡ b → last < suc n
    go true e = absurd (h (code_at n) (coded n (ltb-true n last e)))
    go false e = let m : last ≤ n = ltb-false n last e in omega arith

-- its builtin is that of code 0
pub no_builtin : (code : ℕ) (ws : List ℕ) → Unknown code → builtin (record { place = 0; code = code; arguments = ws }) ≡ int_eq 0 0
unfolding builtin builtins
no_builtin zero ws h = refl
no_builtin (suc n) ws h = ap (λ (g : List ℕ → Builtin). g ws) (get_or-eq_default builtins (λ (l : List ℕ). int_eq 0 0) {n = suc n} (past_last (suc n) h (omega arith)))
