-- What ModelWords and ReadsRight are worth: they are false of words whose reading finds a fault that a text does not leave to check, of a right text that is refused, of a
-- text that is not right and is not refused, and of words that are not those of the text.
use Rattle.std.proofs.Common.{◌≡◌, refl, sym, ap, subst, Bool, true, false, ◌||◌, List, [], ◌∷◌, ◌++◌, append_assoc, ℕ, suc, arith, length, length-append, replicate, get_or}
use Rattle.integers.specs.Bounds.{within, bounds_in}
use Rattle.integers.specs.Lists.{list_of, any}
use Rattle.integers.proofs.Tests.{false-true}
use Rattle.words.specs.Word.{kind, payload, signed, too_low, word}
use Rattle.words.specs.Check.{fault_number_in}
use Rattle.words.specs.Refusal.{first_fault}
use Rattle.words.specs.Answer.{Answer, refused, written, refusal_number}
use Rattle.models.specs.Shape.{shapes, argument}
use Rattle.models.specs.Reading.{fault_head, fault_variable, fault_start_in, fault_upper_in, fault_count_in, fault_argument_in, fault_due_in, fault_in, after_head, after_argument, after_due, declared, started, after, fault_end, ended, read_model_in}
use Rattle.tokens.specs.Byte.{bytes, between, is_digit, is_letter, in_name, in_comment, is_gap, is_sign, front}
use Rattle.tokens.specs.Token.{Token, starts_number, starts_dots, token_length, sort_of, tokens_from, tokens}
use Rattle.tokens.proofs.Lexing.{lexes}
use Rattle.names.specs.Name.{is_word}
use Rattle.texts.specs.ModelWords.{ModelWords}
use Rattle.texts.specs.RightText.{Keyword, no-declaration, integer-item, boolean-item, Constraints, no-constraint, constraint, RightText, right-text, ReadsRight}

-- these words were written, in front of others
abbrev Words : List ℕ → Type 0
Words ws = ModelWords (written (length ws)) (ws ++ (0x70000000 ∷ 0x70000000 ∷ []))

-- 2, 3, 5, 8, 11 and 18: of no word, a word of another kind, an unknown code, a payload of the end word, a word after it, the lowest number; after a Boolean variable too
faults : (Words [] → ⊥) × (Words (0x20000000 ∷ []) → ⊥) × (Words (0x40000000 ∷ []) → ⊥) × (Words (0x70000001 ∷ []) → ⊥) × (Words (0x70000000 ∷ 0x70000000 ∷ []) → ⊥) × (Words (0x18000000 ∷ []) → ⊥)
    × (Words (0x30000000 ∷ []) → ⊥) × (Words (0x30000000 ∷ 0x50000000 ∷ []) → ⊥) × (Words (0x30000000 ∷ 0x40000028 ∷ []) → ⊥) × (Words (0x30000000 ∷ 0x70000001 ∷ []) → ⊥) × (Words (0x30000000 ∷ 0x70000000 ∷ 0x30000000 ∷ []) → ⊥)
unfolding within bounds_in any kind payload signed too_low fault_number_in first_fault shapes argument fault_head fault_variable fault_start_in fault_upper_in fault_count_in fault_argument_in fault_due_in fault_in after_head after_argument after_due declared started after fault_end ended read_model_in
faults = (
  λ h. false-true (h _ refl),
  λ h. false-true (h _ refl),
  λ h. false-true (h _ refl),
  λ h. false-true (h _ refl),
  λ h. false-true (h _ refl),
  λ h. false-true (h _ refl),
  λ h. false-true (h _ refl),
  λ h. false-true (h _ refl),
  λ h. false-true (h _ refl),
  λ h. false-true (h _ refl),
  λ h. false-true (h _ refl),
)

-- 1: of 8,193 words
too_many : Words (replicate 8193 0x30000000) → ⊥
unfolding any read_model_in
too_many h = false-true (h _ refl)

-- ---- ReadsRight: of the tokens of a text

-- a right text begins with one of three words, and writes the end word last; with no other word it begins with "solve"
begins : List Token → Bool
begins [] = false
begins (t ∷ ts) = is_word "solve" t || (is_word "var" t || is_word "constraint" t)

first-of : (a b c : Bool) → a ≡ true → (a || (b || c)) ≡ true
first-of a b c e = ap (λ x. x || (b || c)) e

second-of : (a b c : Bool) → b ≡ true → (a || (b || c)) ≡ true
second-of true b c e = refl
second-of false b c e = ap (λ x. x || c) e

third-of : (a b c : Bool) → c ≡ true → (a || (b || c)) ≡ true
third-of true b c e = refl
third-of false true c e = refl
third-of false false c e = e

begins-constraints : {names : List (List ℕ)} {a b e : Token} {cs : List ℕ} {us : List Token} → Keyword "solve" a → Constraints names (a ∷ b ∷ e ∷ []) cs us → begins us ≡ true
unfolding begins
begins-constraints {a = a} s no-constraint = first-of (is_word "solve" a) (is_word "var" a) (is_word "constraint" a) s
begins-constraints s (constraint {k = k} key b o args e cs) = third-of (is_word "solve" k) (is_word "var" k) (is_word "constraint" k) key

right-begins : {ws : List ℕ} {ts : List Token} → RightText ws ts → begins ts ≡ true
unfolding begins
right-begins (right-text no-declaration cs a b e) = begins-constraints a cs
right-begins (right-text (integer-item {v = v} key l d u c x e ds) cs a b f) = second-of (is_word "solve" v) (is_word "var" v) (is_word "constraint" v) key
right-begins (right-text (boolean-item {v = v} key l c x e ds) cs a b f) = second-of (is_word "solve" v) (is_word "var" v) (is_word "constraint" v) key

ends : {ws : List ℕ} {ts : List Token} → RightText ws ts → (xs : List ℕ) × (ws ≡ xs ++ (0x70000000 ∷ []))
unfolding word
ends (right-text {ds = ds} {cs = cs} d c a b e) = (ds ++ cs, sym (append_assoc ds cs (0x70000000 ∷ [])))

-- with no other word it begins with "solve"
Solves : List Token → Type 0
Solves [] = ⊥
Solves (t ∷ ts) = is_word "solve" t ≡ true

no-word : {n : ℕ} {G : Type 0} → suc n ≡ 0 → G
no-word e = let no : ⊥ = omega (arith, e) in absurd no

solves-constraints : {names : List (List ℕ)} {a b e : Token} {cs : List ℕ} {us : List Token} → Keyword "solve" a → Constraints names (a ∷ b ∷ e ∷ []) cs us → length cs ≡ 0 → Solves us
unfolding Solves
solves-constraints s no-constraint z = s
solves-constraints s (constraint k b o args e cs) z = no-word z

solves : {ws : List ℕ} {ts : List Token} → RightText ws ts → length ws ≡ 1 → Solves ts
unfolding Solves word
solves (right-text {cs = cs} no-declaration c a b e) one = solves-constraints a c (omega (arith, one, length-append cs (0x70000000 ∷ [])))
solves (right-text {cs = cs} (integer-item {ws = ds} v l d u c x e more) k a b f) one = no-word {n = length ds} (omega (arith, one, length-append ds (cs ++ (0x70000000 ∷ [])), length-append cs (0x70000000 ∷ [])))
solves (right-text {cs = cs} (boolean-item {ws = ds} v l c x e more) k a b f) one = no-word {n = length ds} (omega (arith, one, length-append ds (cs ++ (0x70000000 ∷ [])), length-append cs (0x70000000 ∷ [])))

-- ---- texts and answers

abbrev right : List ℕ
right = bytes "solve satisfy;"

tokens-are : {text out : List ℕ} {answer : Answer} → (h : ReadsRight text answer out) → h.tokens ≡ tokens text
tokens-are {text} h = (lexes text h.tokens).0 h.lexed

right-text-is : RightText (0x70000000 ∷ []) (tokens right)
unfolding word bytes between is_digit is_letter in_name in_comment is_gap is_sign front list_of any starts_number starts_dots token_length sort_of tokens_from tokens is_word
right-text-is = right-text no-declaration no-constraint refl refl refl

-- a right text is refused
refuses : (out : List ℕ) → (ReadsRight right (refused 19 0) out → ⊥) × (ReadsRight right (refused 20 6) out → ⊥) × (ReadsRight right (refused 21 0) out → ⊥)
unfolding refusal_number
refuses out = (
  λ h. h.wrong (omega arith) _ (subst (RightText (0x70000000 ∷ [])) (sym (tokens-are h)) right-text-is),
  λ h. h.wrong (omega arith) _ (subst (RightText (0x70000000 ∷ [])) (sym (tokens-are h)) right-text-is),
  λ h. h.wrong (omega arith) _ (subst (RightText (0x70000000 ∷ [])) (sym (tokens-are h)) right-text-is),
)

-- no text, a sign, the words of a right text in another order are not refused, or refused with 16
accepted-begins : (text : List ℕ) {out : List ℕ} → ReadsRight text (written 1) out → begins (tokens text) ≡ true
unfolding refusal_number
accepted-begins text h = let r = h.right (omega arith) in right-begins (subst (RightText r.0) (tokens-are h) r.1)

short-begins : (text : List ℕ) {out : List ℕ} → ReadsRight text (refused 16 0) out → begins (tokens text) ≡ true
unfolding refusal_number
short-begins text h = let r = h.right (omega arith) in right-begins (subst (RightText r.0) (tokens-are h) r.1)

accepts : (out : List ℕ) → (ReadsRight [] (written 1) out → ⊥) × (ReadsRight (bytes ";") (written 1) out → ⊥) × (ReadsRight (bytes "satisfy solve;") (written 1) out → ⊥) × (ReadsRight (bytes "satisfy solve;") (refused 16 0) out → ⊥)
unfolding begins word bytes between is_digit is_letter in_name in_comment is_gap is_sign front list_of any starts_number starts_dots token_length sort_of tokens_from tokens is_word
accepts out = (
  λ h. false-true (accepted-begins [] h),
  λ h. false-true (accepted-begins (bytes ";") h),
  λ h. false-true (accepted-begins (bytes "satisfy solve;") h),
  λ h. false-true (short-begins (bytes "satisfy solve;") h),
)

-- the words are others: another one, none, and the end word alone where a variable is declared
last-word : (xs : List ℕ) (w v : ℕ) → w ∷ [] ≡ xs ++ (v ∷ []) → w ≡ v
last-word [] w v e = ap (λ l. get_or l 0 0) e
last-word (x ∷ xs) w v e = let no : ⊥ = omega (arith, ap length e, length-append xs (v ∷ [])) in absurd no

other-words : (ReadsRight right (written 1) (0x30000000 ∷ []) → ⊥) × (ReadsRight right (written 0) [] → ⊥) × (ReadsRight (bytes "var bool: x; solve satisfy;") (written 1) (0x70000000 ∷ []) → ⊥)
unfolding Solves word bytes between is_digit is_letter in_name in_comment is_gap is_sign front list_of any starts_number starts_dots token_length sort_of tokens_from tokens is_word
other-words = (
  λ h. let e = ends (h.words 1 refl) in omega (arith, last-word e.0 _ _ e.1),
  λ h. let e = ends (h.words 0 refl) in omega (arith, ap length e.1, length-append e.0 (0x70000000 ∷ [])),
  λ h. false-true (solves (subst (RightText (0x70000000 ∷ [])) (tokens-are h) (h.words 1 refl)) refl),
)
