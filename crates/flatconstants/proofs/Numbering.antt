-- What the code answers and tests: the bounds are those of the system, and its builtins are typed.
use Rattle.std.proofs.Common.{◌≡◌, refl, sym, ap, ◌∙◌, subst, true, List, [], ◌∷◌, ◌++◌, map, Some}
use Rattle.integers.specs.Lists.{all}
use Rattle.integers.specs.Number.{+0}
use Rattle.integers.specs.Bounds.{◌to◌, bit}
use Rattle.integers.specs.declared.Bounds.{Bounds}
use Rattle.integers.proofs.Tests.{All}
use Rattle.models.specs.Builtin.{Builtin}
use Rattle.flatzinc.specs.declared.Atom.{Atom}
use Rattle.flatzinc.specs.declared.Atom.TheVariants.{Whole, Truth, Variable}
use Rattle.flatzinc.specs.declared.ModelVariable.{ModelVariable}
use Rattle.flatzinc.specs.declared.Call.{Call}
use Rattle.flatzinc.specs.Items.{Placed}
use Rattle.flatzinc.specs.Calls.{placed_all}
use Rattle.flatzinc.proofs.Agreeing.{Typed}
use Rattle.flatzinc.proofs.Plain.{the-list}
use Rattle.flatconstants.specs.Constants.{constants, with_constants, constant_bounds}
use Rattle.flatconstants.specs.Numbered.{numbered}
use Rattle.flatconstants.specs.Numbers.{constant_variable}
use Rattle.flatconstants.specs.Whole.{IsNumbered}
use Rattle.flatconstants.specs.Typed.{call_typed}
use Rattle.flatconstants.specs.declared.number.Numbered.{Numbered}
use Rattle.flatconstants.proofs.TypedLaws.{calls-typed}

abbrev pub bounds_in_order : List ModelVariable → List Bounds
bounds_in_order Vs = map (λ (v : ModelVariable). v.bounds) Vs

constant-bounds : (as₁ : List Atom) → bounds_in_order (map constant_variable as₁) ≡ map constant_bounds as₁
unfolding constant_variable constant_bounds
constant-bounds [] = refl
constant-bounds (Whole n ∷ as₁) = ap (λ (Bs : List Bounds). (n to n) ∷ Bs) (constant-bounds as₁)
constant-bounds (Truth b ∷ as₁) = ap (λ (Bs : List Bounds). bit ∷ Bs) (constant-bounds as₁)
constant-bounds (Variable v ∷ as₁) = ap (λ (Bs : List Bounds). (+0 to +0) ∷ Bs) (constant-bounds as₁)

joined-bounds : (Vs Ws : List ModelVariable) → bounds_in_order (Vs ++ Ws) ≡ bounds_in_order Vs ++ bounds_in_order Ws
joined-bounds [] Ws = refl
joined-bounds (V ∷ Vs) Ws = ap (λ (Bs : List Bounds). V.bounds ∷ Bs) (joined-bounds Vs Ws)

module _ (Vs : List ModelVariable) (cs : List Call) (r : Numbered) (n : IsNumbered Vs cs r) (ps : List Placed) (h : placed_all cs ≡ Some ps) where
  -- the variables' bounds
  pub same-bounds : bounds_in_order r.variables.items ≡ (numbered (record { bounds = bounds_in_order Vs; items = ps })).bounds
  unfolding numbered with_constants
  same-bounds =
      ap bounds_in_order (n ps h).0 ∙ joined-bounds Vs (map constant_variable (constants ps)) ∙ ap (λ (Bs : List Bounds). bounds_in_order Vs ++ Bs) (constant-bounds (constants ps))

  -- where the code's test passes
  pub typed-builtins : all (call_typed r.variables.items) r.calls.items ≡ true →
      let S = numbered (record { bounds = bounds_in_order Vs; items = ps }) in
      All (Typed S.bounds) S.builtins
  typed-builtins e =
      let t = calls-typed r.variables.items r.calls.items e in
      let S = numbered (record { bounds = bounds_in_order Vs; items = ps }) in
      let b : t.0 ≡ S.builtins = the-list t.0 S.builtins (sym t.1.0 ∙ (n ps h).1) in
      subst (λ (Bs : List Bounds). All (Typed Bs) S.builtins) same-bounds (subst (λ (bs : List Builtin). All (Typed (bounds_in_order r.variables.items)) bs) b t.1.1)
