-- The theorem: from FlatZinc to the words of a model, and to the rows of its row system.
use Rattle.std.proofs.Common.{◌≡◌, ◌∙◌, List, ℕ, ◌+◌, length, Some}
use Rattle.integers.proofs.Tests.{All}
use Rattle.rules.specs.Translation.{system_words, auxiliaries}
use Rattle.sharing.specs.SharedSolutions.{SatisfiesModel, SatisfiesRows, Passes}
use Rattle.sharing.proofs.Theorem.{shared-solutions, exactly-one}
use Rattle.flatzinc.specs.Numbers.{bounds_of}
use Rattle.flatzinc.specs.System.{Solves, Carries}
use Rattle.flatzinc.specs.Items.{FlatZinc, SatisfiesFlat}
use Rattle.flatconstants.specs.Constants.{Prepared, constants}
use Rattle.flatsplitting.specs.Split.{split_all}
use Rattle.flattening.specs.Promise.{Promise}
use Rattle.flatconstants.specs.Numbered.{numbered}
use Rattle.flattening.specs.Flattened.{prepared, with_parts, GivenTyped, ItemTyped}
use Rattle.flatzinc.specs.declared.ModelVariable.{ModelVariable}
use Rattle.flatwords.specs.SystemWords.{words_of}
use Rattle.flatzinc.proofs.Agreeing.{Typed}
use Rattle.flatconstants.proofs.Constants.{DeclaredAtom}
use Rattle.flattening.proofs.Flattening.{flattening}
use Rattle.flatwords.specs.Fits.{VariableFits, BuiltinFits}
use Rattle.flatwords.proofs.ReadWords.{words_variables, words_builtins}
use Rattle.flattening.proofs.Rows.{to_words, to_rows}

-- what the flattener has tested of FlatZinc F, when each list is cut at most f times and the variables of the model are Vs
pub record Flattens (F : FlatZinc) (P : Prepared) (f : ℕ) (Vs : List ModelVariable) : Type 0 where
  -- each item has a builtin of its arguments
  pub is_prepared : prepared F ≡ Some P
  -- the atoms of Boolean items are Boolean, each variable that is named is declared, each variable has the type that its place asks
  pub givens : All (λ d. GivenTyped F d.domain d.given) F.variables
  pub items : All (ItemTyped F) F.constraints
  pub declared : All (λ p. All (DeclaredAtom (length P.bounds)) p.atoms) P.items
  pub typed : let S = numbered P in All (Typed S.bounds) S.builtins
  -- the variables have the system's bounds; all numbers are in the range, and no list is longer than 32
  pub same_bounds : bounds_of Vs ≡ (with_parts f (numbered P)).bounds
  pub bounds_fit : All (λ v. VariableFits v.is_boolean v.bounds) Vs
  pub builtins_fit : All BuiltinFits (with_parts f (numbered P)).builtins

abbrev pub further : Prepared → ℕ → ℕ
further P f = let S = numbered P in length (constants P.items) + length (split_all f S.bounds S.builtins).bounds

abbrev pub model_of : Prepared → ℕ → List ModelVariable → List ℕ
model_of P f Vs = words_of Vs (with_parts f (numbered P)).builtins

module _ (F : FlatZinc) (P : Prepared) (f : ℕ) (Vs : List ModelVariable) (h : Flattens F P f Vs) where
  solved : Carries (further P f) (SatisfiesFlat F) (Solves (with_parts f (numbered P)))
  solved = flattening F P f h.is_prepared h.givens h.items h.declared h.typed

  -- a list of values of FlatZinc's variables satisfies it exactly when, with exactly one list of values of constants and parts, it satisfies the model's words
  pub model_carries : Carries (further P f) (SatisfiesFlat F) (SatisfiesModel (model_of P f Vs))
  model_carries =
      to_words (further P f) (SatisfiesFlat F) (with_parts f (numbered P)) solved (model_of P f Vs)
      (words_variables Vs (with_parts f (numbered P)).builtins h.bounds_fit ∙ h.same_bounds) (words_builtins Vs (with_parts f (numbered P)).builtins h.builtins_fit)

  -- and exactly when, with exactly one list of values of constants, parts and auxiliaries, it satisfies the rows, where the model passes the check
  pub rows_carry : Passes (model_of P f Vs) →
      Carries (further P f + length (auxiliaries (model_of P f Vs))) (SatisfiesFlat F) (SatisfiesRows (system_words (model_of P f Vs)))
  rows_carry passes =
      to_rows (further P f) (SatisfiesFlat F) (with_parts f (numbered P)) solved (model_of P f Vs)
      (words_variables Vs (with_parts f (numbered P)).builtins h.bounds_fit ∙ h.same_bounds) (words_builtins Vs (with_parts f (numbered P)).builtins h.builtins_fit)
      (system_words (model_of P f Vs)) (shared-solutions (model_of P f Vs) passes) (exactly-one (model_of P f Vs) passes)

  pub promised : Promise F (model_of P f Vs)
  promised = record { further = further P f; model = model_carries; rows = rows_carry }
