-- The names of the builtins as printed: each is a name of a text, and the reader finds its code.
use Rattle.std.proofs.Common.{◌≡◌, refl, Bool, true, false, not, ◌&&◌, List, [], ◌∷◌, ◌++◌, map, ℕ, zero, suc, ◌+◌, ◌<◌, ◌≤◌, arith, eqb, ltb, length, ltb-true, eqb-true}
use borrow.Author.Tests.{not-true}
use Rattle.integers.specs.Lists.{all, any, list_of}
use Rattle.integers.proofs.Lists.{all-at, list_of-length}
use Rattle.integers.proofs.Places.{get_or-list_of}
use Rattle.integers.proofs.Tests.{says_all}
use Rattle.integers.proofs.Booleans.{both_true}
use Rattle.models.specs.Table.{last}
use Rattle.tokens.specs.Byte.{bytes, front, between, is_letter, in_name, is_digit, is_gap}
use Rattle.tokens.specs.Token.{tokens_from}
use Rattle.names.specs.Name.{look_up, builtin_names}
use Rattle.printing.specs.ModelText.{builtin_name}
use Rattle.printing.proofs.Spelled.{token, spelled-name}

abbrev is_name_of : List ℕ → ℕ → Bool
is_name_of [] code = false
is_name_of (b ∷ bs) code = is_letter b && (not (is_gap b) && (all in_name bs && (ltb (length bs) 32 && eqb (look_up (b ∷ bs) 0 (map bytes builtin_names)) code)))

names_hold : all (λ code. is_name_of (builtin_name (suc code)) (suc code)) (list_of (λ code. code) last) ≡ true
unfolding all list_of bytes builtin_name builtin_names look_up is_letter in_name is_digit is_gap any between
names_hold = refl

abbrev Holds : ℕ → Type 0
Holds code = is_name_of (builtin_name (suc code)) (suc code) ≡ true

holds : (code : ℕ) → code < last → Holds code
holds code l =
    let m : code < length (list_of (λ (n : ℕ). n) last) = rw (list_of-length (λ (n : ℕ). n) last) l in
    rw (get_or-list_of (λ (n : ℕ). n) last code 0 l) at
    (all-at Holds 0 (list_of (λ (n : ℕ). n) last) code m ((says_all (λ n. is_name_of (builtin_name (suc n)) (suc n)) Holds (λ n. (λ e. e, λ e. e)) (list_of (λ (n : ℕ). n) last)).0 names_hold))

no_name_opening : (bs : List ℕ) → in_name (front (40 ∷ bs)) ≡ false
unfolding in_name is_letter is_digit between front
no_name_opening bs = refl

-- the token of a name before an opening bracket
pub record Named (p : ℕ) (name : List ℕ) (code : ℕ) (bs : List ℕ) : Type 0 where
  pub next : tokens_from 0 p (name ++ (40 ∷ bs)) ≡ token 2 p name ∷ tokens_from 0 (p + length name) (40 ∷ bs)
  pub some : 1 ≤ length name
  pub code_is : look_up name 0 (map bytes builtin_names) ≡ code

named_by : (p : ℕ) (name : List ℕ) (code : ℕ) (bs : List ℕ) → is_name_of name code ≡ true → Named p name code bs
named_by p [] code bs h = absurd (let z : ◌≡◌ {A = ℕ} 0 1 = cc in omega arith)
named_by p (b ∷ xs) code bs h =
    let letter = both_true (is_letter b) _ h in
    let gap = both_true (not (is_gap b)) _ letter.1 in
    let inside = both_true (all in_name xs) _ gap.1 in
    let short = both_true (ltb (length xs) 32) _ inside.1 in
    let n : 1 + length xs ≡ suc (length xs) = omega arith in
    record {
      next = rw n at (spelled-name b xs (40 ∷ bs) letter.0 inside.0 (no_name_opening bs) (ltb-true _ _ short.0) (not-true _ gap.0) p);
      some = omega arith;
      code_is = eqb-true _ _ short.1;
    }

pub builtin-named : (p code : ℕ) (bs : List ℕ) → 1 ≤ code → code ≤ last → Named p (builtin_name code) code bs
builtin-named p zero bs l h = absurd (omega arith)
builtin-named p (suc code) bs l h = named_by p (builtin_name (suc code)) (suc code) bs (holds code (omega arith))
