-- From what the code's steps give to what the theorem asks.
use Rattle.std.proofs.Common.{◌≡◌, refl, sym, ap, ap₂, ◌∙◌, subst, true, List, [], ◌∷◌, ◌++◌, map, ℕ, length, Option, Some, None}
use Rattle.std.specs.Prelude.{IsSome, option_and_then}
use Rattle.std.specs.List.{list_all}
use Rattle.std.proofs.lemmas.List.{length-map, map-append}
use Rattle.integers.specs.Lists.{all}
use Rattle.integers.specs.Bounds.{bit}
use Rattle.integers.specs.declared.Bounds.{Bounds}
use Rattle.integers.proofs.Tests.{All, false-true}
use Rattle.models.specs.Builtin.{Builtin}
use Rattle.flatzinc.specs.declared.Atom.{Atom}
use Rattle.flatzinc.specs.declared.Atom.TheVariants.{Whole, Truth, Variable}
use Rattle.flatzinc.specs.declared.Domain.{Domain}
use Rattle.flatzinc.specs.declared.Domain.TheVariants.{Bools, Between, Among}
use Rattle.flatzinc.specs.declared.Declared.{Declared}
use Rattle.flatzinc.specs.declared.Call.{Call}
use Rattle.flatzinc.specs.declared.FlatZinc.{FlatZinc}
use Rattle.flatzinc.specs.declared.ModelVariable.{ModelVariable}
use Rattle.flatzinc.specs.Items as i
use Rattle.flatzinc.specs.Items.{Placed}
use Rattle.flatzinc.specs.Seen as seen
use Rattle.flatzinc.specs.Numbers.{limits, bounds_of}
use Rattle.flatzinc.specs.Calls.{placed_all, built_all}
use Rattle.flatrewriting.specs.Variables.{domain_bounds}
use Rattle.flatconstants.specs.Constants.{Prepared, constants}
use Rattle.flatconstants.specs.Numbered.{numbered}
use Rattle.flatconstants.specs.Numbers.{is_declared, calls_atoms, constant_variable}
use Rattle.flatconstants.specs.Whole.{IsNumbered}
use Rattle.flatconstants.specs.Typed.{call_typed}
use Rattle.flatconstants.specs.declared.number.Numbered.{Numbered}
use Rattle.flatconstants.proofs.Constants.{DeclaredAtom}
use Rattle.flatconstants.proofs.Declared.{declared-all}
use Rattle.flatconstants.proofs.Numbering.{bounds_in_order, same-bounds, typed-builtins}
use Rattle.flatsplitting.specs.declared.Parted.{Parted}
use Rattle.flatsplitting.specs.Split.{enough}
use Rattle.flatsplitting.specs.IsSplit.{IsSplit}
use Rattle.flatwords.specs.Fits.{ModelFits}
use Rattle.flatwords.specs.SystemWords.{words_of}
use Rattle.flattening.specs.Booleans.{boolean_given, boolean_item}
use Rattle.flattening.specs.Variables.{model_variable}
use Rattle.flattening.specs.Flattened.{prepared, joined, variable_items, constraint_items, with_parts}
use Rattle.flattening.specs.Numbered.{IsNumberedOf}
use Rattle.flattening.specs.Promise.{Promise}
use Rattle.flattening.proofs.BooleanItems.{items_typed, givens_typed}
use Rattle.flattening.proofs.Theorem.{promised}

-- ---- the bounds of the variables

in-order : (ds : List Declared) → bounds_in_order (map model_variable ds) ≡ map (λ (d : i.Declared). domain_bounds d.domain) (map seen.declared ds)
in-order [] = refl
in-order (d ∷ ds) = ap (λ (Bs : List Bounds). domain_bounds (seen.domain d.domain) ∷ Bs) (in-order ds)

one-limit : (D : Domain) (o : Option Atom) → limits (model_variable (record { domain = D; given = o })) ≡ (model_variable (record { domain = D; given = o })).bounds
unfolding domain_bounds
one-limit Bools o = refl
one-limit (Between lo hi) o = refl
one-limit (Among S) o = refl

limited : (ds : List Declared) → bounds_of (map model_variable ds) ≡ bounds_in_order (map model_variable ds)
limited [] = refl
limited (d ∷ ds) = ap₂ ◌∷◌ (one-limit d.domain d.given) (limited ds)

constants-limited : (as₁ : List Atom) → bounds_of (map constant_variable as₁) ≡ bounds_in_order (map constant_variable as₁)
unfolding constant_variable
constants-limited [] = refl
constants-limited (Whole n ∷ as₁) = ap (λ (Bs : List Bounds). (constant_variable (Whole n)).bounds ∷ Bs) (constants-limited as₁)
constants-limited (Truth b ∷ as₁) = ap (λ (Bs : List Bounds). bit ∷ Bs) (constants-limited as₁)
constants-limited (Variable v ∷ as₁) = ap (λ (Bs : List Bounds). (constant_variable (Variable v)).bounds ∷ Bs) (constants-limited as₁)

both-limited : (Vs Ws : List ModelVariable) → bounds_of Vs ≡ bounds_in_order Vs → bounds_of Ws ≡ bounds_in_order Ws → bounds_of (Vs ++ Ws) ≡ bounds_in_order (Vs ++ Ws)
both-limited Vs Ws e f = map-append _ Vs Ws ∙ ap₂ ◌++◌ e f ∙ sym (map-append _ Vs Ws)

-- ---- with constants

pub numbered-of : (F : FlatZinc) (cs : List Call) (qs : List Placed) (n : Numbered) →
    list_all (boolean_given F.variables.items) F.variables.items ≡ true → list_all (boolean_item F.variables.items) F.constraints.items ≡ true →
    placed_all cs ≡ Some qs → joined (variable_items 0 (seen.flatzinc F).variables) (constraint_items (seen.flatzinc F).constraints) ≡ Some qs →
    IsNumbered (map model_variable F.variables.items) cs n → all (is_declared (length (map model_variable F.variables.items))) (calls_atoms cs) ≡ true →
    all (call_typed n.variables.items) n.calls.items ≡ true → IsNumberedOf (seen.flatzinc F) n
unfolding prepared
numbered-of F cs qs n g t p j m d y =
    let Vs = map model_variable F.variables.items in
    let P : Prepared = record { bounds = bounds_in_order Vs; items = qs } in
    let G = seen.flatzinc F in
    let e : prepared G ≡ Some P =
    ap (option_and_then (λ rs. Some (record { bounds = map (λ (d : i.Declared). domain_bounds d.domain) G.variables; items = rs }))) j
    ∙ ap (λ (Bs : List Bounds). Some (record { bounds = Bs; items = qs })) (sym (in-order F.variables.items)) in
    record {
      P = P;
      is_prepared = e;
      givens = givens_typed F F.variables.items g;
      items = items_typed F F.constraints.items t;
      declared = subst (λ (k : ℕ). All (λ (q : Placed). All (DeclaredAtom k) q.atoms) qs) (sym (length-map Vs (λ (v : ModelVariable). v.bounds))) (declared-all (length Vs) cs qs p d);
      typed = typed-builtins Vs cs n m qs p y;
      bounds = ap bounds_of (m qs p).0
          ∙ both-limited Vs (map constant_variable (constants qs)) (limited F.variables.items) (constants-limited (constants qs))
          ∙ ap bounds_in_order (sym (m qs p).0) ∙ same-bounds Vs cs n m qs p;
      builtins = (m qs p).1;
    }

-- ---- with parts, as words

pub promise-of : (F : i.FlatZinc) (n : Numbered) (h : IsNumberedOf F n) (model : Parted) →
    ((bs : List Builtin) → built_all n.calls.items ≡ Some bs → IsSplit (bounds_of n.variables.items) bs model) →
    ((bs : List Builtin) → built_all model.calls.items ≡ Some bs → ModelFits model.variables.items bs) →
    (ws : List ℕ) → ((bs : List Builtin) → built_all model.calls.items ≡ Some bs → ws ≡ words_of model.variables.items bs) → Promise F ws
unfolding with_parts
promise-of F n h model s f ws w =
    let S = numbered h.P in
    let k = enough S.builtins in
    let x : IsSplit S.bounds S.builtins model = subst (λ (Bs : List Bounds). IsSplit Bs S.builtins model) h.bounds (s S.builtins h.builtins) in
    let T = with_parts k S in
    let y = f T.builtins x.builtins in
    subst (Promise F) (sym (w T.builtins x.builtins))
    (promised F h.P k model.variables.items (record {
      is_prepared = h.is_prepared;
      givens = h.givens;
      items = h.items;
      declared = h.declared;
      typed = h.typed;
      same_bounds = x.bounds;
      bounds_fit = y.0;
      builtins_fit = y.1;
    }))

-- what is there is something
pub some-there : {A : Type 0} (o : Option A) → IsSome o → (x : A) × (o ≡ Some x)
some-there None h = false-true h
some-there (Some x) h = (x, refl)
