-- One more statement.
use Rattle.std.proofs.Common.{◌≡◌, refl, sym, ap, ◌∙◌, subst, List, [], ◌∷◌, ◌++◌, append_assoc, append-nil, ℕ, Option, Some, None}
use Rattle.std.specs.Prelude.{option_and_then}
use Rattle.std.proofs.lemmas.Option.{option_and_then_some}
use Rattle.flattokens.specs.Reading.{next_statement}
use Rattle.flatstatements.specs.Statement.{Statement}
use Rattle.flatnames.specs.Step.{State, start, step, steps}
use Rattle.flattening.specs.Reads.{Reads, ending, statement}
use Rattle.flattening.specs.Stepped.{Statement_at}
use Rattle.flatzinc.proofs.Plain.{the-list}

steps_more : (S : State) (done : List Statement) (T U : State) (s : Statement) → steps S done ≡ Some T → step T s ≡ Some U → steps S (done ++ s ∷ []) ≡ Some U
unfolding steps
steps_more S [] T U s e f = ap (λ (o : Option State). option_and_then (λ V. steps V []) o) (ap (λ (R : State). step R s) (the-list S T e) ∙ f)
steps_more S (d ∷ ds) T U s e f =
    option_and_then_some (λ V. steps V ds) (step S d) T e
    (λ V g h. ap (option_and_then (λ W. steps W (ds ++ s ∷ []))) g ∙ steps_more V ds T U s h f)

-- so many statements are read, and lead to a state
abbrev pub Read_so_far : List ℕ → List ℕ → State → Type 0
Read_so_far bytes rest S = (done : List Statement) × ((steps start done ≡ Some S) × ((ss : List Statement) → Reads rest ss → Reads bytes (done ++ ss)))

pub one_more : (bytes rest behind : List ℕ) (S T : State) → Read_so_far bytes rest S → Statement_at rest S T behind → Read_so_far bytes behind T
one_more bytes rest behind S T (done, (e, h)) at = (
  done ++ at.is ∷ [],
  (
    steps_more start done S T at.is e at.stepped,
    λ ss r. subst (Reads bytes) (sym (append_assoc done (at.is ∷ []) ss)) (h (at.is ∷ ss) (statement at.found at.read r)),
  ),
)

pub at_end : (bytes rest : List ℕ) (S : State) → Read_so_far bytes rest S → next_statement rest ≡ Some None → (ss : List Statement) × Reads bytes ss × (steps start ss ≡ Some S)
at_end bytes rest S (done, (e, h)) n = (done ++ [], h [] (ending n), subst (λ (ds : List Statement). steps start ds ≡ Some S) (sym (append-nil done)) e)

pub at_start : (bytes : List ℕ) → Read_so_far bytes bytes start
unfolding steps
at_start bytes = ([], (refl, λ ss r. r))
