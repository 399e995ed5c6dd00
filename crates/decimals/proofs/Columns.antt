-- Text in columns: lengths, and a last byte.
use Rattle.std.proofs.Common.{◌≡◌, refl, sym, ap, List, [], ◌∷◌, ◌++◌, append_assoc, ℕ, zero, suc, ◌-◌, ◌≤◌, ◌<◌, arith, length, length-append, get_or}
use Rattle.decimals.specs.Column.{blanks, right, left}

pub length-blanks : (n : ℕ) → length (blanks n) ≡ n
unfolding blanks
length-blanks zero = refl
length-blanks (suc n) = ap suc (length-blanks n)

pub blanks-last : (n : ℕ) → blanks n ++ (32 ∷ []) ≡ blanks (suc n)
unfolding blanks
blanks-last zero = refl
blanks-last (suc n) = ap (λ (l : List ℕ). 32 ∷ l) (blanks-last n)

-- a column of blanks that others follow
pub blank_at : (n i : ℕ) (more : List ℕ) → i < n → get_or (blanks n ++ more) i 0 ≡ 32
unfolding blanks
blank_at zero i more h = absurd (omega arith)
blank_at (suc n) zero more h = refl
blank_at (suc n) (suc i) more h = blank_at n i more (omega arith)

-- what fits its columns fills them
pub length-right : (columns : ℕ) (text : List ℕ) → length text ≤ columns → length (right columns text) ≡ columns
unfolding right
length-right columns text h = simp (length-append, length-blanks) (omega arith)

pub length-left : (columns : ℕ) (text : List ℕ) → length text ≤ columns → length (left columns text) ≡ columns
unfolding left
length-left columns text h = simp (length-append, length-blanks) (omega arith)

pub right-last : (columns : ℕ) (text : List ℕ) (x : ℕ) → right (suc columns) (text ++ (x ∷ [])) ≡ right columns text ++ (x ∷ [])
unfolding right
right-last columns text x =
    let e : suc columns - length (text ++ (x ∷ [])) ≡ columns - length text = simp length-append (omega arith) in
    rw e (sym (append_assoc (blanks (columns - length text)) text (x ∷ [])))

-- in no columns, and in its own length
pub right-none : (text : List ℕ) → length text ≤ 0 → [] ≡ right 0 text
unfolding right blanks
right-none [] h = refl
right-none (x ∷ text) h = absurd (omega arith)

pub right-self : (text : List ℕ) → right (length text) text ≡ text
unfolding right blanks
right-self text = let e : length text - length text ≡ 0 = omega arith in rw e
