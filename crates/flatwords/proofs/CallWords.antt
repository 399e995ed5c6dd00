-- The words of calls whose atoms are all variables are those of their builtins.
use Rattle.std.proofs.Common.{◌≡◌, refl, sym, ap, ap₂, ◌∙◌, List, [], ◌∷◌, ◌++◌, map, append_assoc, append-nil, ℕ, ℤ, pos, suc, length, Some, arith}
use Rattle.std.specs.Prelude.{option_and_then}
use Rattle.integers.specs.Terms.{Term, ◌·◌}
use Rattle.words.specs.Word.{word, number_word, complement}
use Rattle.words.specs.Kind as Kind
use Rattle.models.specs.declared.code.Code.{Code}
use Rattle.models.specs.declared.code.Code.TheVariants as c
use Rattle.models.specs.Codes.{code_number}
use Rattle.models.specs.Builtin.{Builtin}
use Rattle.models.specs.Table.{Sort, integer, boolean, number, exponent, numbers, set, integers, booleans, parallel, Takes}
use Rattle.models.specs.Table.{Argument as Of}
use Rattle.models.proofs.Arguments.{Given, ◌!◌, arguments_of}
use Rattle.flatzinc.specs.declared.Atom.{Atom}
use Rattle.flatzinc.specs.declared.Atom.TheVariants.{Variable}
use Rattle.flatzinc.specs.declared.Product.{Product}
use Rattle.flatzinc.specs.declared.Argument.{Argument}
use Rattle.flatzinc.specs.declared.Argument.TheVariants.{One, Number, Numbers, Many, Sum}
use Rattle.flatzinc.specs.declared.Call.{Call}
use Rattle.flatzinc.specs.Numbers.{number_of}
use Rattle.flatzinc.specs.Seen.{row}
use Rattle.flatzinc.proofs.Built.{some_is, none_is, and_then, atoms-numbered, terms-numbered}
use Rattle.flatzinc.specs.Calls.{numbers_of, terms_of, built_argument, built_arguments, built_call, built_all}
use Rattle.flatwords.specs.SystemWords.{argument_words, given_words, code_of, constraint_words, all_constraint_words}
use Rattle.flatwords.specs.CallWords.{atom_word, written_sum, written, all_written, call_words, all_call_words}

-- ---- one argument

module _ {A B C : Type 0} (f : A → B) (g : B → C) where
  map_twice : (xs : List A) → map (λ x. g (f x)) xs ≡ map g (map f xs)
  map_twice [] = refl
  map_twice (x ∷ xs) = ap (λ l. g (f x) ∷ l) (map_twice xs)

  same-length : (xs : List A) → length xs ≡ length (map f xs)
  same-length [] = refl
  same-length (x ∷ xs) = ap suc (same-length xs)

list_words : (as₁ : List Atom) (vs : List ℕ) → numbers_of as₁ ≡ Some vs →
    word Kind.number (length as₁) ∷ map atom_word as₁ ≡ word Kind.number (length vs) ∷ map (word Kind.variable) vs
list_words as₁ vs e =
    let h = atoms-numbered as₁ vs e in
    ap₂ (λ n l. word Kind.number n ∷ l) (same-length number_of (word Kind.variable) as₁ ∙ ap length h) (map_twice number_of (word Kind.variable) as₁ ∙ ap (map (word Kind.variable)) h)

sum_words : (ps : List Product) (ts : List (Term ℕ)) → terms_of ps ≡ Some ts → written_sum ps ≡ argument_words parallel ts
unfolding argument_words
sum_words ps ts e =
    let h = terms-numbered ps ts e in
    let f : Product → Term ℕ = λ p. p.coefficient · number_of p.atom in
    let c : Term ℕ → ℕ = λ t. number_word Kind.number t.coefficient in
    let x : Term ℕ → ℕ = λ t. word Kind.variable t.variable in
    ap₂ (λ n l. word Kind.number n ∷ l) (same-length f c ps ∙ ap length h) (ap₂ ◌++◌ (map_twice f c ps ∙ ap (map c) h) (map_twice f x ps ∙ ap (map x) h))

payload-again : (k : ℕ) → number_word Kind.number (pos k) ≡ word Kind.number k
unfolding number_word complement word
payload-again k = omega arith

written-is : (s : Sort) (g : Argument) (a : Of s) → built_argument s g ≡ Some a → written g ≡ argument_words s a
unfolding built_argument written argument_words
written-is integer (One (Variable v)) a e = ap (λ (n : ℕ). word Kind.variable n ∷ []) (some_is v a e)
written-is boolean (One (Variable v)) a e = ap (λ (n : ℕ). word Kind.variable n ∷ []) (some_is v a e)
written-is number (Number n) a e = ap (λ (z : ℤ). number_word Kind.number z ∷ []) (some_is n a e)
written-is exponent (Number (pos k)) a e = ap (λ w. w ∷ []) (payload-again k) ∙ ap (λ (n : ℕ). word Kind.number n ∷ []) (some_is k a e)
written-is numbers (Numbers ns) a e = ap (λ (l : List ℤ). word Kind.number (length l) ∷ map (number_word Kind.number) l) (some_is ns.items a e)
written-is set (Numbers ns) a e = ap (λ (l : List ℤ). word Kind.number (length l) ∷ map (number_word Kind.number) l) (some_is ns.items a e)
written-is integers (Many xs) a e = list_words xs.items a e
written-is booleans (Many xs) a e = list_words xs.items a e
written-is parallel (Sum ps) a e = sum_words ps.items a e
written-is s g a e = none_is a e

-- ---- the arguments of a call

-- whatever it is applied to, it is a builtin of this code and of these arguments
abbrev pub Makes : ℕ → (ss : List Sort) → Takes ss → List Given → Type 0
Makes n [] b before = (code_of b ≡ n) × (arguments_of b ≡ before)
Makes n (s ∷ ss) f before = (a : Of s) → Makes n ss (f a) (before ++ (s ! a) ∷ [])

pub each-makes : (k : Code) → Makes (code_number k) (row k).sorts (row k).make []
unfolding code_of
each-makes c.IntEq = λ x y. (refl, refl)
each-makes c.IntLe = λ x y. (refl, refl)
each-makes c.IntLt = λ x y. (refl, refl)
each-makes c.IntNe = λ x y. (refl, refl)
each-makes c.IntLeReif = λ x y z. (refl, refl)
each-makes c.IntPlus = λ x y z. (refl, refl)
each-makes c.IntTimes = λ x y z. (refl, refl)
each-makes c.IntAbs = λ x y. (refl, refl)
each-makes c.IntMax = λ x y z. (refl, refl)
each-makes c.IntLinEq = λ x y. (refl, refl)
each-makes c.IntLinLe = λ x y. (refl, refl)
each-makes c.IntLinNe = λ x y. (refl, refl)
each-makes c.IntLinEqReif = λ x y z. (refl, refl)
each-makes c.IntEqReif = λ x y z. (refl, refl)
each-makes c.IntLinLeReif = λ x y z. (refl, refl)
each-makes c.Bool2int = λ x y. (refl, refl)
each-makes c.BoolNot = λ x y. (refl, refl)
each-makes c.BoolAnd = λ x y z. (refl, refl)
each-makes c.BoolOr = λ x y z. (refl, refl)
each-makes c.BoolXor = λ x y z. (refl, refl)
each-makes c.BoolClause = λ x y. (refl, refl)
each-makes c.ArrayBoolAnd = λ x y. (refl, refl)
each-makes c.ArrayBoolXor = λ x. (refl, refl)
each-makes c.ArrayIntElement = λ x y z. (refl, refl)
each-makes c.ArrayVarIntElement = λ x y z. (refl, refl)
each-makes c.ArrayIntMaximum = λ x y. (refl, refl)
each-makes c.SetIn = λ x y. (refl, refl)
each-makes c.SetInReif = λ x y z. (refl, refl)
each-makes c.IntMin = λ x y z. (refl, refl)
each-makes c.IntLtReif = λ x y z. (refl, refl)
each-makes c.IntNeReif = λ x y z. (refl, refl)
each-makes c.IntLinNeReif = λ x y z. (refl, refl)
each-makes c.ArrayIntMinimum = λ x y. (refl, refl)
each-makes c.BoolEqReif = λ x y z. (refl, refl)
each-makes c.BoolLeReif = λ x y z. (refl, refl)
each-makes c.BoolLtReif = λ x y z. (refl, refl)
each-makes c.IntDiv = λ x y z. (refl, refl)
each-makes c.IntMod = λ x y z. (refl, refl)
each-makes c.IntPow = λ x y z. (refl, refl)

given-append : (xs ys : List Given) → given_words (xs ++ ys) ≡ given_words xs ++ given_words ys
unfolding given_words
given-append [] ys = refl
given-append (x ∷ xs) ys = ap (λ l. argument_words x.sort x.is ++ l) (given-append xs ys) ∙ sym (append_assoc (argument_words x.sort x.is) (given_words xs) (given_words ys))

given-one : (s : Sort) (a : Of s) → given_words ((s ! a) ∷ []) ≡ argument_words s a
unfolding given_words
given-one s a = append-nil (argument_words s a)

made : (n : ℕ) (ss : List Sort) (f : Takes ss) (before : List Given) → Makes n ss f before → (gs : List Argument) (b : Builtin) → built_arguments ss f gs ≡ Some b →
    (code_of b ≡ n) × (given_words (arguments_of b) ≡ given_words before ++ all_written gs)
unfolding built_arguments all_written
made n [] f before m [] b e =
    let i = some_is f b e in
    (ap code_of (sym i) ∙ m.0, ap (λ x. given_words (arguments_of x)) (sym i) ∙ ap given_words m.1 ∙ sym (append-nil (given_words before)))
made n [] f before m (g ∷ gs) b e = none_is b e
made n (s ∷ ss) f before m [] b e = none_is b e
made n (s ∷ ss) f before m (g ∷ gs) b e =
    let r = and_then (built_argument s g) (λ a. built_arguments ss (f a) gs) b e in
    let a = r.0 in
    let h = made n ss (f a) (before ++ (s ! a) ∷ []) (m a) gs b r.1.1 in
    let w = written-is s g a r.1.0 in (
      h.0,
      h.1 ∙ ap (λ l. l ++ all_written gs) (given-append before ((s ! a) ∷ []) ∙ ap (λ l. given_words before ++ l) (given-one s a ∙ sym w))
          ∙ append_assoc (given_words before) (written g) (all_written gs),
    )

-- ---- all calls

pub call-is : (k : Call) (b : Builtin) → built_call k ≡ Some b → call_words k ≡ constraint_words b
unfolding built_call call_words constraint_words given_words
call-is k b e =
    let h = made (code_number k.code) (row k.code).sorts (row k.code).make [] (each-makes k.code) k.arguments.items b e in
    ap₂ (λ (n : ℕ) l. word Kind.constraint n ∷ l) (sym h.0) (sym h.1)

pub calls-are : (ks : List Call) (bs : List Builtin) → built_all ks ≡ Some bs → all_call_words ks ++ word Kind.model_end 0 ∷ [] ≡ all_constraint_words bs
unfolding built_all all_call_words all_constraint_words
calls-are [] bs e = ap all_constraint_words (some_is [] bs e)
calls-are (k ∷ ks) bs e =
    let q = and_then (built_call k) (λ b. option_and_then (λ cs. Some (b ∷ cs)) (built_all ks)) bs e in
    let r = and_then (built_all ks) (λ cs. Some (q.0 ∷ cs)) bs q.1.1 in
    append_assoc (call_words k) (all_call_words ks) (word Kind.model_end 0 ∷ []) ∙ ap₂ ◌++◌ (call-is k q.0 q.1.0) (calls-are ks r.0 r.1.0)
    ∙ ap all_constraint_words (some_is (q.0 ∷ r.0) bs r.1.1)
