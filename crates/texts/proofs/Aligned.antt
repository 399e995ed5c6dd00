-- The arguments of a code in words and in a text, side by side: what is left of its sorts is k-th in words and j-th in the text, where parallel lists are two.
use Rattle.std.proofs.Common.{◌≡◌, refl, sym, ap, ◌∙◌, List, [], ◌∷◌, map, ℕ, zero, suc, ◌+◌, ◌≤◌, add-one, arith, length, get_or, drop, drop_of_length-le}
use mathlib.Core.List.{flat_map}
use Rattle.models.specs.Table as Table
use Rattle.models.specs.Table.{Sort, Code, codes}
use Rattle.models.specs.Shape as Shape
use Rattle.models.specs.Shape.{shape_of, shapes}
use Rattle.grammar.specs.Form.{Form, Missing, in_text, argument_forms, argument_form}

-- ---- lists

get_mapped : {A B : Type 0} (f : A → B) (xs : List A) (k : ℕ) (d : A) (e : B) → f d ≡ e → get_or (map f xs) k e ≡ f (get_or xs k d)
get_mapped f [] k d e h = sym h
get_mapped f (x ∷ xs) zero d e h = refl
get_mapped f (x ∷ xs) (suc k) d e h = get_mapped f xs k d e h

module _ {A : Type 0} where
  head_of : (xs : List A) (j : ℕ) (d y : A) (ys : List A) → drop j xs ≡ y ∷ ys → (get_or xs j d ≡ y) × (drop (suc j) xs ≡ ys)
  head_of [] zero d y ys e = absurd (let z : ◌≡◌ {A = ℕ} 0 1 = cc in omega arith)
  head_of [] (suc j) d y ys e = absurd (let z : ◌≡◌ {A = ℕ} 0 1 = cc in omega arith)
  head_of (x ∷ xs) zero d y ys e = (cc, cc)
  head_of (x ∷ xs) (suc j) d y ys e = head_of xs j d y ys e

  pub at : (xs : List A) (j : ℕ) (d y : A) (ys : List A) → drop j xs ≡ y ∷ ys → (get_or xs j d ≡ y) × (drop (j + 1) xs ≡ ys)
  at xs j d y ys e = rw (add-one j) (head_of xs j d y ys e)

  pub none_at : (xs : List A) (j : ℕ) (d : A) → drop j xs ≡ [] → get_or xs j d ≡ d
  none_at [] j d e = refl
  none_at (x ∷ xs) zero d e = absurd (let z : ◌≡◌ {A = ℕ} 0 1 = cc in omega arith)
  none_at (x ∷ xs) (suc j) d e = none_at xs j d e

-- ---- the sorts of a code

abbrev pub sorts : List (List Sort)
sorts = [] ∷ map (λ (row : Code). row.sorts) codes

pub record Left (c k j : ℕ) (ss : List Sort) : Type 0 where
  pub in_words : drop k (get_or shapes c []) ≡ map shape_of ss
  pub in_forms : drop j (argument_forms c) ≡ flat_map in_text ss

pub record Aligned (c k j : ℕ) : Type 0 where
  pub sorts : List Sort
  pub are : Left c k j sorts

pub aligned : (c : ℕ) → Aligned c 0 0
unfolding shapes argument_forms flat_map
aligned c = record {
  sorts = get_or sorts c [];
  are = record { in_words = get_mapped (map shape_of) sorts c [] [] refl; in_forms = get_mapped (flat_map in_text) sorts c [] [] refl };
}

-- ---- none is left

none_left : (ss : List Sort) → flat_map in_text ss ≡ [] → ss ≡ []
unfolding flat_map in_text
none_left [] e = refl
none_left (Table.integer ∷ ss) e = absurd (let z : ◌≡◌ {A = ℕ} 0 1 = cc in omega arith)
none_left (Table.boolean ∷ ss) e = absurd (let z : ◌≡◌ {A = ℕ} 0 1 = cc in omega arith)
none_left (Table.number ∷ ss) e = absurd (let z : ◌≡◌ {A = ℕ} 0 1 = cc in omega arith)
none_left (Table.exponent ∷ ss) e = absurd (let z : ◌≡◌ {A = ℕ} 0 1 = cc in omega arith)
none_left (Table.numbers ∷ ss) e = absurd (let z : ◌≡◌ {A = ℕ} 0 1 = cc in omega arith)
none_left (Table.set ∷ ss) e = absurd (let z : ◌≡◌ {A = ℕ} 0 1 = cc in omega arith)
none_left (Table.integers ∷ ss) e = absurd (let z : ◌≡◌ {A = ℕ} 0 1 = cc in omega arith)
none_left (Table.booleans ∷ ss) e = absurd (let z : ◌≡◌ {A = ℕ} 0 1 = cc in omega arith)
none_left (Table.parallel ∷ ss) e = absurd (let z : ◌≡◌ {A = ℕ} 0 1 = cc in omega arith)

pub no-sorts : {c k j : ℕ} (ss : List Sort) → Left c k j ss → length (argument_forms c) ≤ j → ss ≡ []
no-sorts {c} ss a l = none_left ss (sym a.in_forms ∙ drop_of_length-le (argument_forms c) l)

-- of the sorts of the code, from the first on
abbrev pub sorts_from : ℕ → List Sort
sorts_from c = get_or sorts c []

pub left-all : (c : ℕ) → Left c 0 0 (sorts_from c)
unfolding shapes argument_forms flat_map
left-all c = record { in_words = get_mapped (map shape_of) sorts c [] [] refl; in_forms = get_mapped (flat_map in_text) sorts c [] [] refl }

pub no-argument : {c k j : ℕ} → Aligned c k j → length (argument_forms c) ≤ j → Shape.argument c k ≡ 0
unfolding Shape.argument
no-argument {c} {k} {j} a l =
    none_at (get_or shapes c []) k 0 (a.are.in_words ∙ ap (map shape_of) (none_left a.sorts (sym a.are.in_forms ∙ drop_of_length-le (argument_forms c) l)))

-- a form that is there stands before the end
pub some-form : (c j : ℕ) (f : Form) → argument_form c j ≡ f → (f ≡ Missing → ⊥) → length (argument_forms c) ≤ j → ⊥
unfolding argument_form
some-form c j f e n l = n (sym e ∙ none_at (argument_forms c) j Missing (drop_of_length-le (argument_forms c) l))

pub missing-form : {c k j : ℕ} → Left c k j [] → argument_form c j ≡ Missing
unfolding argument_form flat_map
missing-form {c} {j = j} a = none_at (argument_forms c) j Missing a.in_forms

-- ---- the next argument

module _ {c k j : ℕ} {s : Sort} {ss : List Sort} (a : Left c k j (s ∷ ss)) where
  pub shape-is : Shape.argument c k ≡ shape_of s
  unfolding Shape.argument
  shape-is = (at (get_or shapes c []) k 0 (shape_of s) (map shape_of ss) a.in_words).0

  words-next : drop (k + 1) (get_or shapes c []) ≡ map shape_of ss
  words-next = (at (get_or shapes c []) k 0 (shape_of s) (map shape_of ss) a.in_words).1

  -- one in the text
  module _ (f : Form) (e : flat_map in_text (s ∷ ss) ≡ f ∷ flat_map in_text ss) where
    pub form-is : argument_form c j ≡ f
    unfolding argument_form
    form-is = (at (argument_forms c) j Missing f (flat_map in_text ss) (a.in_forms ∙ e)).0

    pub left-next : Left c (k + 1) (j + 1) ss
    left-next = record { in_words = words-next; in_forms = (at (argument_forms c) j Missing f (flat_map in_text ss) (a.in_forms ∙ e)).1 }

    pub aligned-next : Aligned c (k + 1) (j + 1)
    aligned-next = record { sorts = ss; are = left-next }

  -- two
  module _ (f g : Form) (e : flat_map in_text (s ∷ ss) ≡ f ∷ (g ∷ flat_map in_text ss)) where
    pub first-form : argument_form c j ≡ f
    unfolding argument_form
    first-form = (at (argument_forms c) j Missing f (g ∷ flat_map in_text ss) (a.in_forms ∙ e)).0

    after-first : drop (j + 1) (argument_forms c) ≡ g ∷ flat_map in_text ss
    after-first = (at (argument_forms c) j Missing f (g ∷ flat_map in_text ss) (a.in_forms ∙ e)).1

    pub second-form : argument_form c (j + 1) ≡ g
    unfolding argument_form
    second-form = (at (argument_forms c) (j + 1) Missing g (flat_map in_text ss) after-first).0

    pub left-both : Left c (k + 1) (j + 1 + 1) ss
    left-both = record { in_words = words-next; in_forms = (at (argument_forms c) (j + 1) Missing g (flat_map in_text ss) after-first).1 }

    pub aligned-both : Aligned c (k + 1) (j + 1 + 1)
    aligned-both = record { sorts = ss; are = left-both }
