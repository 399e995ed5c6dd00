-- The arguments of a code in words and in a text, side by side: the k-th in words is the j-th in the text, where parallel lists are two.
use Rattle.std.proofs.Common.{◌≡◌, refl, sym, ap, ◌∙◌, Bool, true, false, not, ◌&&◌, List, [], ◌∷◌, map, ℕ, zero, suc, ◌+◌, ◌<◌, ◌≤◌, add-one, arith, eqb, leb, ltb, drop-cons, length, get_or, drop, drop_of_length-le, length-drop, le-leb, leb-true, ltb-true, ltb-false, ne_eqb}
use mathlib.Core.List.{flat_map}
use lib.ListN.{get_or-eq_default}
use borrow.Author.Tests.{lt-leb, eqb-false, not-true}
use Rattle.integers.specs.Choice.{◌if◌else◌}
use Rattle.integers.specs.Lists.{all, any, list_of}
use Rattle.integers.proofs.Lists.{all-at, list_of-length, all_or_past}
use Rattle.integers.proofs.Places.{get_or-list_of}
use Rattle.integers.proofs.Tests.{All, says_all, says-and}
use Rattle.integers.proofs.Booleans.{both_true}
use Rattle.models.specs.Table.{Code, codes, last}
use Rattle.models.specs.Shape as Shape
use Rattle.models.specs.Shape.{shapes}
use Rattle.grammar.specs.Form.{in_text, argument_forms, argument_form, Form, Missing, One, Many}
use Rattle.grammar.specs.Machine.{text_form}
use Rattle.grammar.specs.declared.form.Bracketed.TheVariants as brackets
use Rattle.grammar.specs.declared.form.Form.{Form as Argument}
use Rattle.grammar.specs.declared.form.Form.TheVariants as argument
use Rattle.printing.specs.ModelText.{bracket, takes_set}

-- ---- lists

head_of : (xs : List Form) (j : ℕ) (y : Form) (ys : List Form) → drop j xs ≡ y ∷ ys → (get_or xs j Missing ≡ y) × (drop (suc j) xs ≡ ys)
head_of [] zero y ys e = absurd (let z : ◌≡◌ {A = ℕ} 0 1 = cc in omega arith)
head_of [] (suc j) y ys e = absurd (let z : ◌≡◌ {A = ℕ} 0 1 = cc in omega arith)
head_of (x ∷ xs) zero y ys e = (cc, cc)
head_of (x ∷ xs) (suc j) y ys e = head_of xs j y ys e

-- ---- shapes are 1 to 8

abbrev Shaped : ℕ → Type 0
Shaped s = (1 ≤ s) × (s ≤ 8)

shaped : (code : ℕ) → All Shaped (get_or shapes code [])
unfolding shapes all
shaped code =
    all_or_past (All Shaped) shapes []
    ((says_all (all (λ s. leb 1 s && leb s 8)) (All Shaped) (says_all (λ s. leb 1 s && leb s 8) Shaped (λ s. says-and (leb-true 1 s, le-leb 1 s) (leb-true s 8, le-leb s 8))) shapes).0 refl)
    tt code

shaped-at : (xs : List ℕ) (k : ℕ) → All Shaped xs → k < length xs → Shaped (get_or xs k 0)
shaped-at [] k h l = absurd (omega arith)
shaped-at (x ∷ xs) zero h l = h.0
shaped-at (x ∷ xs) (suc k) h l = shaped-at xs k h.1 (omega arith)

-- ---- the arguments in a text, by their shapes

-- the numbers of an argument: a set or a list
abbrev pub numbers_form : Bool → Argument
numbers_form is_set = argument.Bracketed (brackets.Set if is_set else brackets.Numbers)

abbrev sorts_of : Bool → List ℕ → List Argument
sorts_of is_set [] = []
sorts_of is_set (s ∷ ss) =
    let rest = sorts_of is_set ss in
    argument.Variable ∷ rest if leb s 2 else argument.Number ∷ rest if leb s 4 else numbers_form is_set ∷ rest if eqb s 5 else argument.Bracketed brackets.Numbers ∷ argument.Bracketed brackets.Parallel ∷ rest if eqb s 8 else argument.Bracketed brackets.Variables ∷ rest

forms_are : list_of argument_forms (suc last) ≡ list_of (λ code. map text_form (sorts_of (takes_set code) (get_or shapes code []))) (suc last)
unfolding any list_of argument_forms in_text bracket takes_set shapes flat_map
forms_are = refl

beyond : (code : ℕ) → last < code → (argument_forms code ≡ []) × (get_or shapes code [] ≡ [])
unfolding argument_forms shapes
beyond code l = (get_or-eq_default ([] ∷ map (λ (row : Code). flat_map in_text row.sorts) codes) [] {n = code} l, get_or-eq_default shapes [] {n = code} l)

abbrev pub Aligned : ℕ → ℕ → ℕ → Type 0
Aligned code k j = drop j (argument_forms code) ≡ map text_form (sorts_of (takes_set code) (drop k (get_or shapes code [])))

pub aligned : (code : ℕ) → Aligned code 0 0
aligned code = go (ltb code (suc last)) refl
  where
    sorted : ℕ → List Form
    sorted c = map text_form (sorts_of (takes_set c) (get_or shapes c []))

    go : (b : Bool) → ltb code (suc last) ≡ b → argument_forms code ≡ sorted code
    go true e =
        let l = ltb-true code (suc last) e in
        sym (get_or-list_of argument_forms (suc last) code [] l) ∙ ap (λ (r : List (List Form)). get_or r code []) forms_are ∙ get_or-list_of sorted (suc last) code [] l
    go false e = let q = beyond code (omega (arith, ltb-false code (suc last) e)) in rw (q.0, q.1)

module _ (code k : ℕ) where
  within : 1 ≤ Shape.argument code k → k < length (get_or shapes code [])
  unfolding Shape.argument
  within l = go (ltb k (length (get_or shapes code []))) refl
    where
      go : (b : Bool) → ltb k (length (get_or shapes code [])) ≡ b → k < length (get_or shapes code [])
      go true e = ltb-true _ _ e
      go false e = absurd (omega (arith, get_or-eq_default (get_or shapes code []) 0 {n = k} (ltb-false _ _ e)))

  pub at_most_8 : Shape.argument code k ≤ 8
  unfolding Shape.argument
  at_most_8 = go (ltb k (length (get_or shapes code []))) refl
    where
      go : (b : Bool) → ltb k (length (get_or shapes code [])) ≡ b → get_or (get_or shapes code []) k 0 ≤ 8
      go true e = (shaped-at (get_or shapes code []) k (shaped code) (ltb-true _ _ e)).1
      go false e = omega (arith, get_or-eq_default (get_or shapes code []) 0 {n = k} (ltb-false _ _ e))

  first_of : (s : ℕ) → Shape.argument code k ≡ s → 1 ≤ s → drop k (get_or shapes code []) ≡ s ∷ drop (k + 1) (get_or shapes code [])
  unfolding Shape.argument
  first_of s e l = rw (add-one k, ← e) (drop-cons (get_or shapes code []) k 0 (within (rw e l)))

  none_of : Shape.argument code k ≡ 0 → drop k (get_or shapes code []) ≡ []
  unfolding Shape.argument
  none_of e = go (ltb k (length (get_or shapes code []))) refl
    where
      go : (b : Bool) → ltb k (length (get_or shapes code [])) ≡ b → drop k (get_or shapes code []) ≡ []
      go true q = absurd (omega (arith, (shaped-at (get_or shapes code []) k (shaped code) (ltb-true _ _ q)).0))
      go false q = drop_of_length-le (get_or shapes code []) (ltb-false _ _ q)

  module _ (j : ℕ) (h : Aligned code k j) where
    pub ends : Shape.argument code k ≡ 0 → leb (length (argument_forms code)) j ≡ true
    ends e =
        let q : length (drop j (argument_forms code)) ≡ 0 = rw h (rw (none_of e)) in
        le-leb (length (argument_forms code)) j (omega (arith, q, length-drop j (argument_forms code)))

    -- an argument that is one in the text
    one : (s : ℕ) (y : Argument) → Shape.argument code k ≡ s → 1 ≤ s → sorts_of (takes_set code) (s ∷ drop (k + 1) (get_or shapes code [])) ≡ y ∷ sorts_of (takes_set code) (drop (k + 1) (get_or shapes code [])) →
        (argument_form code j ≡ text_form y) × Aligned code (k + 1) (j + 1)
    unfolding argument_form
    one s y e l f = rw (add-one j) (head_of (argument_forms code) j (text_form y) _ (h ∙ ap (λ (ss : List ℕ). map text_form (sorts_of (takes_set code) ss)) (first_of s e l) ∙ ap (map text_form) f))

    pub is-variable : (s : ℕ) → Shape.argument code k ≡ s → 1 ≤ s → s ≤ 2 → (argument_form code j ≡ One 2) × Aligned code (k + 1) (j + 1)
    is-variable s e l m = one s argument.Variable e l (rw (le-leb s 2 m))

    pub is-number : (s : ℕ) → Shape.argument code k ≡ s → 2 < s → s ≤ 4 → (argument_form code j ≡ One 1) × Aligned code (k + 1) (j + 1)
    is-number s e l m = one s argument.Number e (omega arith) (rw (lt-leb s 2 l, le-leb s 4 m))

    pub is-numbers : Shape.argument code k ≡ 5 → (argument_form code j ≡ text_form (numbers_form (takes_set code))) × Aligned code (k + 1) (j + 1)
    is-numbers e = one 5 (numbers_form (takes_set code)) e (omega arith) refl

    pub is-variables : (s : ℕ) → Shape.argument code k ≡ s → 5 < s → s < 8 → (argument_form code j ≡ Many 91 2 93 false) × Aligned code (k + 1) (j + 1)
    is-variables s e l m = one s (argument.Bracketed brackets.Variables) e (omega arith) (rw (lt-leb s 2 (omega arith), lt-leb s 4 (omega arith), ne_eqb s 5 (λ z. omega arith), ne_eqb s 8 (λ z. omega arith)))

    pub is-parallel : Shape.argument code k ≡ 8 → (argument_form code j ≡ Many 91 1 93 false) × (argument_form code (j + 1) ≡ Many 91 2 93 true) × Aligned code (k + 1) (j + 1 + 1)
    unfolding argument_form
    is-parallel e =
        let f : drop j (argument_forms code) ≡ text_form (argument.Bracketed brackets.Numbers) ∷ text_form (argument.Bracketed brackets.Parallel) ∷ map text_form (sorts_of (takes_set code) (drop (k + 1) (get_or shapes code []))) = h ∙ ap (λ (ss : List ℕ). map text_form (sorts_of (takes_set code) ss)) (first_of 8 e (omega arith)) in
        let a = head_of (argument_forms code) j (text_form (argument.Bracketed brackets.Numbers)) _ f in
        let b = head_of (argument_forms code) (suc j) (text_form (argument.Bracketed brackets.Parallel)) _ a.1 in
        rw (add-one j, add-one (suc j)) (a.0, b.0, b.1)

-- ---- what the table of codes says

-- every code has an argument
abbrev Some : List ℕ → Type 0
Some ss = 1 ≤ length ss

some_of : (code : ℕ) → code < last → Some (get_or shapes (suc code) [])
unfolding shapes all
some_of code l = all-at Some [] (drop 1 shapes) code (omega arith) ((says_all (λ ss. leb 1 (length ss)) Some (λ ss. (leb-true 1 (length ss), le-leb 1 (length ss))) (drop 1 shapes)).0 refl)

pub some-argument : (code : ℕ) → 1 ≤ code → code ≤ last → 1 ≤ Shape.argument code 0
unfolding Shape.argument
some-argument zero l h = absurd (omega arith)
some-argument (suc code) l h = (shaped-at (get_or shapes (suc code) []) 0 (shaped (suc code)) (some_of code (omega arith))).0

-- parallel lists are no sets
no-parallel : (xs : List ℕ) (k : ℕ) → all (λ s. not (eqb s 8)) xs ≡ true → get_or xs k 0 ≡ 8 → ⊥
unfolding all
no-parallel [] k h e = omega arith
no-parallel (x ∷ xs) zero h e = eqb-false x 8 (not-true (eqb x 8) (both_true (not (eqb x 8)) _ h).0) e
no-parallel (x ∷ xs) (suc k) h e = no-parallel xs k (both_true (not (eqb x 8)) _ h).1 e

abbrev is_apart : ℕ → Bool
is_apart code = all (λ s. not (eqb s 8)) (get_or shapes code []) if takes_set code else true

apart-all : all is_apart (list_of (λ code. code) (suc last)) ≡ true
unfolding all any list_of argument_forms in_text bracket takes_set shapes flat_map
apart-all = refl

abbrev Apart : ℕ → Type 0
Apart code = is_apart code ≡ true

apart : (code : ℕ) → code < (suc last) → Apart code
apart code l =
    let m : code < length (list_of (λ (n : ℕ). n) (suc last)) = rw (list_of-length (λ (n : ℕ). n) (suc last)) l in
    rw (get_or-list_of (λ (n : ℕ). n) (suc last) code 0 l) at
    (all-at Apart 0 (list_of (λ (n : ℕ). n) (suc last)) code m ((says_all is_apart Apart (λ n. (λ e. e, λ e. e)) (list_of (λ (n : ℕ). n) (suc last))).0 apart-all))

pub parallel-lists : (code k : ℕ) → Shape.argument code k ≡ 8 → takes_set code ≡ false
unfolding Shape.argument all
parallel-lists code k e = go (takes_set code) (ltb code (suc last)) refl refl
  where
    go : (a b : Bool) → takes_set code ≡ a → ltb code (suc last) ≡ b → a ≡ false
    go true true f g = absurd (no-parallel (get_or shapes code []) k (rw f at (apart code (ltb-true code (suc last) g))) e)
    go true false f g = absurd (no-parallel [] k refl (rw (beyond code (omega (arith, ltb-false code (suc last) g))).1 at e))
    go false b f g = refl
