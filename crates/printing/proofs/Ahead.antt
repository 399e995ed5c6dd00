-- Looking ahead in a printed list: its closing bracket comes after as many elements as its length word says.
use Rattle.std.proofs.Common.{◌≡◌, refl, ap, ◌∙◌, Bool, false, List, [], ◌∷◌, ◌++◌, ℕ, zero, suc, ◌+◌, ◌<◌, ◌≤◌, add-zero, arith, eqb, length}
use Rattle.words.specs.Word.{payload, signed}
use Rattle.decimals.specs.Decimal.{numeral}
use Rattle.models.specs.declared.Due.TheVariants.{Arguments}
use Rattle.models.proofs.Sound.{Sound, reading}
use Rattle.tokens.specs.Token.{Token, tokens_from}
use Rattle.grammar.specs.Brackets.{fits_inside, length_from}
use Rattle.printing.specs.ModelText.{variable_name, closed, numbers_end, variables_end, text_from}
use Rattle.printing.proofs.Spelled.{token, Sign, comma, close_list, close_set, spelled-sign, ends-number, ends-name}
use Rattle.printing.proofs.Numerals.{name-token, number-token}
use Rattle.printing.proofs.Events.{ListOf, of-numbers, of-variables, of_set, of-second, closing-of}
use Rattle.printing.proofs.Turns.{number-turn, variable-turn, variable-declared, more_numbers, last-number, more-variables, last-variable, unfinished}

-- ---- token by token: an element, a comma, the closing bracket after elements or at once

past-element : {o c e : ℕ} {b : Bool} → ListOf o c e b → (before m p : ℕ) (xs : List ℕ) (ts : List Token) → eqb before e ≡ false → length_from e c before m (token e p xs ∷ ts) ≡ length_from e c e (m + 1) ts
unfolding length_from fits_inside
past-element of-numbers before m p xs ts h = rw h
past-element of-variables before m p xs ts h = rw h
past-element of_set before m p xs ts h = rw h
past-element of-second before m p xs ts h = rw h

past-comma : {o c e : ℕ} {b : Bool} → ListOf o c e b → (m p : ℕ) (ys : List ℕ) → length_from e c e m (tokens_from 0 p (44 ∷ ys)) ≡ length_from e c 44 m (tokens_from 0 (p + 1) ys)
unfolding length_from fits_inside
past-comma of-numbers m p ys = rw (spelled-sign comma p ys) (ap (λ (n : ℕ). length_from 1 93 44 n (tokens_from 0 (p + 1) ys)) (add-zero m))
past-comma of-variables m p ys = rw (spelled-sign comma p ys) (ap (λ (n : ℕ). length_from 2 93 44 n (tokens_from 0 (p + 1) ys)) (add-zero m))
past-comma of_set m p ys = rw (spelled-sign comma p ys) (ap (λ (n : ℕ). length_from 1 125 44 n (tokens_from 0 (p + 1) ys)) (add-zero m))
past-comma of-second m p ys = rw (spelled-sign comma p ys) (ap (λ (n : ℕ). length_from 2 93 44 n (tokens_from 0 (p + 1) ys)) (add-zero m))

at_close : {o c e : ℕ} {b : Bool} → ListOf o c e b → (m p : ℕ) (ys : List ℕ) → length_from e c e m (tokens_from 0 p (c ∷ ys)) ≡ m + 1
unfolding length_from fits_inside
at_close of-numbers m p ys = rw (spelled-sign close_list p ys)
at_close of-variables m p ys = rw (spelled-sign close_list p ys)
at_close of_set m p ys = rw (spelled-sign close_set p ys)
at_close of-second m p ys = rw (spelled-sign close_list p ys)

pub at_once : {o c e : ℕ} {b : Bool} → ListOf o c e b → (p : ℕ) (ys : List ℕ) → length_from e c o 0 (tokens_from 0 p (c ∷ ys)) ≡ 1
unfolding length_from fits_inside
at_once of-numbers p ys = rw (spelled-sign close_list p ys)
at_once of-variables p ys = rw (spelled-sign close_list p ys)
at_once of_set p ys = rw (spelled-sign close_set p ys)
at_once of-second p ys = rw (spelled-sign close_list p ys)

-- ---- the elements, from one on: n of them before the last

module _ {o c : ℕ} {b : Bool} (l : ListOf o c 1 b) (ts : List ℕ) (cs t code k : ℕ) where
  at-number : (before m p w : ℕ) (d : ℕ) (ys : List ℕ) → Sign d → eqb before 1 ≡ false →
      length_from 1 c before m (tokens_from 0 p (numeral (signed w) ++ (d ∷ ys))) ≡ length_from 1 c 1 (m + 1) (tokens_from 0 (p + length (numeral (signed w))) (d ∷ ys))
  at-number before m p w d ys g h = ap (length_from 1 c before m) (number-token p (signed w) (d ∷ ys) (ends-number g ys)) ∙ past-element l before m p (numeral (signed w)) _ h

  pub numbers-from : (v : ℕ) → closed code ≡ c ∷ [] → (ws : List ℕ) (n m before p : ℕ) → eqb before 1 ≡ false → Sound (reading (Arguments (suc n) v t code k) ts cs) ws →
      length_from 1 c before m (tokens_from 0 p (text_from (reading (Arguments (suc n) v t code k) ts cs) ws)) ≡ m + suc n + 1
  unfolding numbers_end
  numbers-from v is [] n m before p h q = absurd (unfinished ts cs _ _ _ _ _ q)
  numbers-from v is (w ∷ ws) zero m before p h q =
      rw (last-number ts cs v t code k w ws q, is) (at-number before m p w c _ (closing-of l) h ∙ at_close l (m + 1) _ _)
  numbers-from v is (w ∷ ws) (suc n) m before p h q =
      rw (more_numbers ts cs v t code k w ws n q)
      (at-number before m p w 44 _ comma h ∙ past-comma l (m + 1) _ _ ∙ numbers-from v is ws n (m + 1) 44 _ refl (number-turn ts cs (suc n) v t code k w ws q).sound ∙ omega arith)

module _ (ts : List ℕ) (few : length ts ≤ 256) (cs t code k : ℕ) (l : 1 ≤ t) where
  at-variable : (before m p w : ℕ) (d : ℕ) (ys : List ℕ) → Sign d → eqb before 2 ≡ false → payload w < length ts →
      length_from 2 93 before m (tokens_from 0 p (variable_name (payload w) ++ (d ∷ ys))) ≡ length_from 2 93 2 (m + 1) (tokens_from 0 (p + length (variable_name (payload w))) (d ∷ ys))
  at-variable before m p w d ys g h e = ap (length_from 2 93 before m) (name-token p (payload w) (d ∷ ys) (omega arith) (ends-name g ys)) ∙ past-element of-variables before m p (variable_name (payload w)) _ h

  pub variables-from : (ws : List ℕ) (v m before p : ℕ) → eqb before 2 ≡ false → Sound (reading (Arguments 0 (suc v) t code k) ts cs) ws →
      length_from 2 93 before m (tokens_from 0 p (text_from (reading (Arguments 0 (suc v) t code k) ts cs) ws)) ≡ m + suc v + 1
  unfolding variables_end
  variables-from [] v m before p h q = absurd (unfinished ts cs _ _ _ _ _ q)
  variables-from (w ∷ ws) zero m before p h q =
      rw (last-variable ts cs 0 t code k w ws l q) (at-variable before m p w 93 _ close_list h (variable-declared ts cs 0 t code k w ws l q) ∙ at_close of-variables (m + 1) _ _)
  variables-from (w ∷ ws) (suc v) m before p h q =
      rw (more-variables ts cs v t code k w ws l q)
      (at-variable before m p w 44 _ comma h (variable-declared ts cs (suc v) t code k w ws l q) ∙ past-comma of-variables (m + 1) _ _ ∙ variables-from ws v (m + 1) 44 _ refl (variable-turn ts cs (suc v) t code k w ws l q).sound ∙ omega arith)
