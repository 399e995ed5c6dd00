-- Models and wrong row systems, of 1, 2 and 3 variables, what the judges say of values, computed, and so what each statement of specs/ is false of.
use Rattle.std.proofs.Common.{◌≡◌, refl, sym, ap, ◌∙◌, subst, false, List, [], ◌∷◌, ◌++◌, ℕ, ℤ, length, replicate, take}
use Rattle.std.proofs.Math.Seq.{take-append_seam}
use Rattle.std.proofs.lemmas.List.{append-nil, nil_from_length, append_cancel_left}
use Rattle.integers.specs.Number.{◌≟◌, +0, +1, +2}
use Rattle.integers.specs.Terms.{value}
use Rattle.integers.proofs.Tests.{false-true, says-equal}
use Rattle.words.specs.Refusal.{accepted}
use Rattle.words.specs.Answer.{Answer, holds, is_holds}
use Rattle.models.specs.Reading.{read_model}
use Rattle.models.specs.JudgeModel.{judge_model}
use Rattle.rowsystems.specs.Reading.{read_rows}
use Rattle.rowsystems.specs.JudgeRows.{judge_rows}
use Rattle.rules.specs.Translation.{auxiliaries, picks}
use Rattle.sharing.specs.SharedSolutions.{SatisfiesModel, SatisfiesRows, Completes, SharedSolutions}
use Rattle.sharing.specs.ExactlyOne.{ExactlyOne, AsManySolutions}
use Rattle.sharing.proofs.Judged.{judge_model_says, judge_rows_says}
use Rattle.sharing.proofs.OnWords.{on_words}

-- ---- words: a variable in 0..1, n Boolean variables, and what comes after

abbrev pub booleans : ℕ → List ℕ → List ℕ
booleans n rest = replicate n 0x30000000 ++ rest

-- no constraint; the first variable at most 0; the first variable a member of 0, 1, which has a bit for each value
abbrev pub free : ℕ → List ℕ
free n = 0x10000000 ∷ 0x20000001 ∷ booleans n (0x70000000 ∷ [])

abbrev pub at_most_0 : ℕ → List ℕ
at_most_0 n = 0x10000000 ∷ 0x20000001 ∷ booleans n (0x4000000B ∷ 0x60000001 ∷ 0x60000001 ∷ 0x50000000 ∷ 0x60000000 ∷ 0x70000000 ∷ [])

abbrev pub of_0_and_1 : ℕ → List ℕ
of_0_and_1 n = 0x10000000 ∷ 0x20000001 ∷ booleans n (0x4000001B ∷ 0x50000000 ∷ 0x60000002 ∷ 0x60000000 ∷ 0x60000001 ∷ 0x70000000 ∷ [])

-- no row; the upper bound 2 and no row; the row that the first variable is at most 0; two bits and no row
abbrev pub no_row : ℕ → List ℕ
no_row n = 0x10000000 ∷ 0x20000001 ∷ booleans n (0xF0000000 ∷ [])

abbrev pub wider : ℕ → List ℕ
wider n = 0x10000000 ∷ 0x20000002 ∷ booleans n (0xF0000000 ∷ [])

abbrev pub with_row : ℕ → List ℕ
with_row n = 0x10000000 ∷ 0x20000001 ∷ booleans n (0xA0000001 ∷ 0x50000000 ∷ 0x60000001 ∷ 0x60000000 ∷ 0xF0000000 ∷ [])

abbrev pub two_bits : ℕ → List ℕ
two_bits n = 0x10000000 ∷ 0x20000001 ∷ booleans n (0x80000000 ∷ 0x90000001 ∷ 0x80000000 ∷ 0x90000001 ∷ 0xF0000000 ∷ [])

-- the values x, 0, 0, ..
abbrev pub first : ℤ → ℕ → List ℤ
first x n = x ∷ replicate n +0

-- ---- what is wrong of a model and words: a solution is lost; a list that is none is admitted; a solution has two lists of auxiliaries, of
-- which only the first is picked

pub record Read (model system : List ℕ) : Type 0 where
  pub model_read : read_model model ≡ accepted
  pub rows_read : read_rows system ≡ accepted

pub record Alone (model : List ℕ) : Type 0 where
  pub no_auxiliaries : auxiliaries model ≡ []
  pub none_picked : (us : List ℤ) → picks model us ≡ []

pub record Loses (model system : List ℕ) (vs : List ℤ) : Type 0 where
  pub both : Read model system
  pub alone : Alone model
  pub solves : judge_model model vs ≡ holds
  pub fails : is_holds (judge_rows system vs) ≡ false

pub record Admits (model system : List ℕ) (vs : List ℤ) : Type 0 where
  pub both : Read model system
  pub alone : Alone model
  pub fails : is_holds (judge_model model vs) ≡ false
  pub solves : judge_rows system vs ≡ holds

pub record TwoLists (model system : List ℕ) (v : ℤ) (vs xs ys : List ℤ) : Type 0 where
  pub both : Read model system
  pub counted : length xs ≡ length (auxiliaries model)
  pub as_many : length ys ≡ length (auxiliaries model)
  pub solves : judge_model model (v ∷ vs) ≡ holds
  pub one : judge_rows system (v ∷ vs ++ xs) ≡ holds
  pub other : judge_rows system (v ∷ vs ++ ys) ≡ holds
  pub picked : picks model (v ∷ vs) ≡ xs
  pub differ : (value xs 0 ≟ value ys 0) ≡ false

-- ---- computed

abbrev pub three : (ℕ → Type 0) → Type 0
three P = P 0 × P 1 × P 2

pub loses : three (λ n. Loses (free n) (with_row n) (first +1 n))
unfolding on_words
loses = (
  record { both = record { model_read = refl; rows_read = refl }; alone = record { no_auxiliaries = refl; none_picked = λ us. refl }; solves = refl; fails = refl },
  record { both = record { model_read = refl; rows_read = refl }; alone = record { no_auxiliaries = refl; none_picked = λ us. refl }; solves = refl; fails = refl },
  record { both = record { model_read = refl; rows_read = refl }; alone = record { no_auxiliaries = refl; none_picked = λ us. refl }; solves = refl; fails = refl },
)

pub admits : three (λ n. Admits (at_most_0 n) (no_row n) (first +1 n))
unfolding on_words
admits = (
  record { both = record { model_read = refl; rows_read = refl }; alone = record { no_auxiliaries = refl; none_picked = λ us. refl }; solves = refl; fails = refl },
  record { both = record { model_read = refl; rows_read = refl }; alone = record { no_auxiliaries = refl; none_picked = λ us. refl }; solves = refl; fails = refl },
  record { both = record { model_read = refl; rows_read = refl }; alone = record { no_auxiliaries = refl; none_picked = λ us. refl }; solves = refl; fails = refl },
)

pub admits-outside : three (λ n. Admits (free n) (wider n) (first +2 n))
unfolding on_words
admits-outside = (
  record { both = record { model_read = refl; rows_read = refl }; alone = record { no_auxiliaries = refl; none_picked = λ us. refl }; solves = refl; fails = refl },
  record { both = record { model_read = refl; rows_read = refl }; alone = record { no_auxiliaries = refl; none_picked = λ us. refl }; solves = refl; fails = refl },
  record { both = record { model_read = refl; rows_read = refl }; alone = record { no_auxiliaries = refl; none_picked = λ us. refl }; solves = refl; fails = refl },
)

abbrev pub bits : ℤ → ℤ → List ℤ
bits a b = a ∷ b ∷ []

pub two-lists : three (λ n. TwoLists (of_0_and_1 n) (two_bits n) +0 (replicate n +0) (bits +1 +0) (bits +0 +1))
unfolding on_words
two-lists = (
  record { both = record { model_read = refl; rows_read = refl }; counted = refl; as_many = refl; solves = refl; one = refl; other = refl; picked = refl; differ = refl },
  record { both = record { model_read = refl; rows_read = refl }; counted = refl; as_many = refl; solves = refl; one = refl; other = refl; picked = refl; differ = refl },
  record { both = record { model_read = refl; rows_read = refl }; counted = refl; as_many = refl; solves = refl; one = refl; other = refl; picked = refl; differ = refl },
)

-- ---- so

holds-not : {a : Answer} → is_holds a ≡ false → a ≡ holds → ⊥
unfolding on_words
holds-not f h = false-true (sym f ∙ ap is_holds h)

module _ (model system : List ℕ) (vs : List ℤ) where
  alone-completed : Alone model → (xs : List ℤ) → Completes model system vs xs → SatisfiesRows system vs
  alone-completed a xs c =
      subst (SatisfiesRows system) (ap (λ ys. vs ++ ys) (nil_from_length xs (c.0 ∙ ap length a.no_auxiliaries)) ∙ append-nil vs) c.1

  lost : Loses model system vs → SatisfiesModel model vs × (SatisfiesRows system vs → ⊥)
  lost l = ((judge_model_says model l.both.model_read vs).0 l.solves, λ s. holds-not l.fails ((judge_rows_says system l.both.rows_read vs).1 s))

  pub loses-shared : Loses model system vs → SharedSolutions model system → ⊥
  loses-shared l h = let x = (h vs).0 (lost l).0 in (lost l).1 (alone-completed l.alone x.0 x.1)

  pub loses-one : Loses model system vs → ExactlyOne model system → ⊥
  loses-one l h = let x = h vs (lost l).0 in (lost l).1 (alone-completed l.alone x.0 x.1.0)

  pub loses-many : Loses model system vs → AsManySolutions model system → ⊥
  loses-many l h = (lost l).1 ((h vs).1 (vs, ((lost l).0, sym (append-nil vs) ∙ ap (λ ys. vs ++ ys) (sym (l.alone.none_picked vs)))))

  admitted : Admits model system vs → SatisfiesRows system vs × (SatisfiesModel model vs → ⊥)
  admitted a = ((judge_rows_says system a.both.rows_read vs).0 a.solves, λ s. holds-not a.fails ((judge_model_says model a.both.model_read vs).1 s))

  pub admits-shared : Admits model system vs → SharedSolutions model system → ⊥
  admits-shared a h =
      (admitted a).1 ((h vs).1 ([], (ap length (sym a.alone.no_auxiliaries), subst (SatisfiesRows system) (sym (append-nil vs)) (admitted a).0)))

  pub admits-many : Admits model system vs → AsManySolutions model system → ⊥
  admits-many a h =
      let x = (h vs).0 (admitted a).0 in
      (admitted a).1 (subst (SatisfiesModel model) (sym (x.1.1 ∙ ap (λ ys. x.0 ++ ys) (a.alone.none_picked x.0) ∙ append-nil x.0)) x.1.0)

module _ (model system : List ℕ) (v : ℤ) (vs xs ys : List ℤ) (t : TwoLists model system v vs xs ys) where
  different : ys ≡ xs → ⊥
  different e = false-true (sym t.differ ∙ (says-equal _ _).1 (ap (λ l. value l 0) (sym e)))

  solved : SatisfiesModel model (v ∷ vs)
  solved = (judge_model_says model t.both.model_read (v ∷ vs)).0 t.solves

  other-rows : SatisfiesRows system (v ∷ vs ++ ys)
  other-rows = (judge_rows_says system t.both.rows_read (v ∷ vs ++ ys)).0 t.other

  pub two-lists-one : ExactlyOne model system → ⊥
  two-lists-one h =
      let only = (h (v ∷ vs) solved).1.1 in
      different (only ys (t.as_many, other-rows) ∙ sym (only xs (t.counted, (judge_rows_says system t.both.rows_read (v ∷ vs ++ xs)).0 t.one)))

  pub two-lists-many : AsManySolutions model system → ⊥
  two-lists-many h =
      let x = (h (v ∷ vs ++ ys)).0 other-rows in
      let same : x.0 ≡ v ∷ vs =
      sym (take-append_seam x.0 (picks model x.0))
      ∙ ap (take (length x.0)) (sym x.1.1)
      ∙ ap (λ k. take k (v ∷ vs ++ ys)) (x.1.0.one_each ∙ sym solved.one_each)
      ∙ take-append_seam (v ∷ vs) ys in
      different (append_cancel_left (v ∷ vs) ys xs (x.1.1 ∙ ap (λ us. us ++ picks model us) same ∙ ap (λ l. v ∷ vs ++ l) t.picked))
