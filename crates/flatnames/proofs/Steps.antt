-- A step, case by case: which name it declares, and what it adds.
use Rattle.std.proofs.Common.{◌≡◌, refl, sym, ap, ◌∙◌, subst, Bool, true, false, List, [], ◌∷◌, ◌++◌, ℕ, ◌+◌, length, length-append, Option, Some, None, is_some, arith, add-zero, zero-add}
use Rattle.std.proofs.lemmas.Option.{option_and_then_some, same_Some}
use Rattle.std.proofs.lemmas.Slice.Eq.{bytes_eq-Decides}
use Rattle.std.specs.Str.{bytes_eq}
use Rattle.integers.proofs.Tests.{false-true}
use Rattle.integers.specs.Choice.{◌if◌else◌}
use Rattle.integers.specs.Lists.{how_many}
use Rattle.flattokens.specs.Token.{Token}
use Rattle.flatstatements.specs.Statement.{Literal, Expression, Range, Goal, Statement, predicate, parameter, variable, constraint, solve}
use Rattle.flatnames.specs.Scope.{Known, Scope, with, known, arguments}
use Rattle.flatnames.specs.Scope as k
use Rattle.flatnames.specs.Due.{domain_fits, item_fits}
use Rattle.flatnames.specs.Named.{item_of}
use Rattle.flatnames.specs.Step.{State, Resolved, start, kind_fits, domain_of, given_of, aim_of, step, steps, finished, resolved, after_parameter, after_variable, after_constraint, after_solve}
use Rattle.flatnames.specs.Laws.{is_variable, is_constraint, Keeps, DropsNothing}

-- a test that is true, and one that is false, in front of a result
taken : {A : Type 0} (b : Bool) (o : Option A) (y : A) → (o if b else None) ≡ Some y → (b ≡ true) × (o ≡ Some y)
taken true o y e = (refl, e)
taken false o y e = cc

passed : {A : Type 0} (b : Bool) (o : Option A) (y : A) → (None if b else o) ≡ Some y → (b ≡ false) × (o ≡ Some y)
passed true o y e = cc
passed false o y e = (refl, e)

-- ---- what a step does: the scope stays, or has one more name that was free; variables and constraints stay, or have one more

pub record Does (S T : State) (v c : ℕ) : Type 0 where
  pub keeps : (n : List ℕ) (x : Known) → S.scope n ≡ Some x → T.scope n ≡ Some x
  pub variables : length T.variables ≡ length S.variables + v
  pub constraints : length T.constraints ≡ length S.constraints + c

free : (S : Scope) (n : List ℕ) (y : Known) → is_some (S n) ≡ false → (m : List ℕ) (x : Known) → S m ≡ Some x → with S n y m ≡ Some x
free S n y f m x e = go (bytes_eq n m) refl
  where
    go : (b : Bool) → bytes_eq n m ≡ b → (Some y if b else S m) ≡ Some x
    go true h =
        let p : n ≡ m = (bytes_eq-Decides n m).0 h in
        let q : is_some (S m) ≡ false = subst (λ (z : List ℕ). is_some (S z) ≡ false) p f in
        false-true (sym q ∙ ap is_some e)
    go false h = e

module _ (S T : State) where
  parameter_does : (ks : List Token) (n : List ℕ) (x : Expression) → after_parameter S ks n x ≡ Some T → Does S T 0 0
  unfolding after_parameter
  parameter_does ks n x e =
      let p = passed (is_some (S.scope n)) _ T e in
      let q = taken (kind_fits ks x) _ T p.1 in
      option_and_then_some (λ v. Some (record S { scope = with S.scope n v })) (known S.scope x) T q.1 (λ v h r.
      let d : Does S (record S { scope = with S.scope n v }) 0 0 = record { keeps = free S.scope n v p.0; variables = sym (add-zero _); constraints = sym (add-zero _) } in
      subst (λ (U : State). Does S U 0 0) (same_Some _ _ r) d)

  variable_does : (r : Range) (n : List ℕ) (o : Option Literal) → after_variable S r n o ≡ Some T → Does S T 1 0
  unfolding after_variable
  variable_does r n o e =
      let p = passed (is_some (S.scope n)) _ T e in
      let q = taken (domain_fits (domain_of r)) _ T p.1 in
      option_and_then_some
      (λ g. Some (record S { scope = with S.scope n (k.variable (length S.variables)); variables = S.variables ++ record { domain = domain_of r; given = g } ∷ [] }))
      (given_of S (domain_of r) o) T q.1 (λ g h s.
      let d : Does S (record S { scope = with S.scope n (k.variable (length S.variables)); variables = S.variables ++ record { domain = domain_of r; given = g } ∷ [] }) 1 0 =
      record { keeps = free S.scope n (k.variable (length S.variables)) p.0; variables = length-append S.variables _; constraints = sym (add-zero _) } in
      subst (λ (U : State). Does S U 1 0) (same_Some _ _ s) d)

  constraint_does : (n : List ℕ) (xs : List Expression) → after_constraint S n xs ≡ Some T → Does S T 0 1
  unfolding after_constraint
  constraint_does n xs e =
      option_and_then_some _ (arguments S.scope xs) T e (λ vs h f.
      option_and_then_some _ (item_of n vs) T f (λ i j g.
      let q = taken (item_fits S.variables i) (Some (record S { constraints = S.constraints ++ i ∷ [] })) T g in
      let d : Does S (record S { constraints = S.constraints ++ i ∷ [] }) 0 1 = record { keeps = λ m x u. u; variables = sym (add-zero _); constraints = length-append S.constraints _ } in
      subst (λ (U : State). Does S U 0 1) (same_Some _ _ q.1) d))

  solve_does : (g : Goal) → after_solve S g ≡ Some T → Does S T 0 0
  unfolding after_solve
  solve_does g e =
      let p = passed (is_some S.aim) _ T e in
      option_and_then_some (λ a. Some (record S { aim = Some a })) (aim_of S g) T p.1 (λ a h r.
      let d : Does S (record S { aim = Some a }) 0 0 = record { keeps = λ m x u. u; variables = sym (add-zero _); constraints = sym (add-zero _) } in
      subst (λ (U : State). Does S U 0 0) (same_Some _ _ r) d)

pub does : (S T : State) (t : Statement) → step S t ≡ Some T → Does S T (1 if is_variable t else 0) (1 if is_constraint t else 0)
unfolding step
does S T (predicate ts) e =
    let d : Does S S 0 0 = record { keeps = λ m x u. u; variables = sym (add-zero _); constraints = sym (add-zero _) } in
    subst (λ (U : State). Does S U 0 0) (same_Some _ _ e) d
does S T (parameter ks n ts x) e = parameter_does S T ks n x e
does S T (variable r n ts o) e = variable_does S T r n o e
does S T (constraint n xs ts) e = constraint_does S T n xs e
does S T (solve ts g) e = solve_does S T g e

pub keeps : Keeps
keeps S T t e = (does S T t e).keeps

-- ---- over all statements

record Did (S T : State) (ts : List Statement) : Type 0 where
  variables : length T.variables ≡ length S.variables + how_many is_variable ts
  constraints : length T.constraints ≡ length S.constraints + how_many is_constraint ts

did : (S T : State) (ts : List Statement) → steps S ts ≡ Some T → Did S T ts
unfolding steps how_many
did S T [] e =
    let d : Did S S [] = record { variables = sym (add-zero _); constraints = sym (add-zero _) } in
    subst (λ (U : State). Did S U []) (same_Some _ _ e) d
did S T (t ∷ ts) e =
    option_and_then_some (λ U. steps U ts) (step S t) T e (λ U h r.
    let a = does S U t h in
    let b = did U T ts r in
    record { variables = omega (arith, a.variables, b.variables); constraints = omega (arith, a.constraints, b.constraints) })

pub drops_nothing : DropsNothing
unfolding resolved
drops_nothing ts R e =
    option_and_then_some finished (steps start ts) R e (λ T h r.
    let d = did start T ts h in
    option_and_then_some (λ a. Some (record { flatzinc = record { variables = T.variables; constraints = T.constraints }; aim = a })) T.aim R r (λ a j s.
    let v : T.variables ≡ R.flatzinc.variables = ap (λ (Q : Resolved). Q.flatzinc.variables) (same_Some _ _ s) in
    let c : T.constraints ≡ R.flatzinc.constraints = ap (λ (Q : Resolved). Q.flatzinc.constraints) (same_Some _ _ s) in
    (ap length (sym v) ∙ d.variables ∙ zero-add _, ap length (sym c) ∙ d.constraints ∙ zero-add _)))
