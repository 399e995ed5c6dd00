-- The tests of Boolean atoms say what the theorem asks of FlatZinc's items.
use Rattle.std.proofs.Common.{Bool, ◌&&◌, ◌≡◌, sym, ap, ◌∙◌, subst, refl, arith, true, false, List, [], ◌∷◌, map, ℕ, zero, suc, ◌<◌, ltb, length, get_or, Option, Some, None}
use Rattle.std.proofs.lemmas.Bool.{ltb-true}
use Rattle.std.proofs.lemmas.List.{length-map}
use Rattle.std.specs.List.{list_all}
use Rattle.integers.proofs.Tests.{All, false-true}
use Rattle.flatzinc.specs.declared.Atom.{Atom}
use Rattle.flatzinc.specs.declared.Atom.TheVariants.{Whole, Truth, Variable}
use Rattle.flatzinc.specs.declared.Domain.{Domain}
use Rattle.flatzinc.specs.declared.Domain.TheVariants.{Bools, Between, Among}
use Rattle.flatzinc.specs.declared.Declared.{Declared}
use Rattle.flatzinc.specs.declared.Item.{Item}
use Rattle.flatzinc.specs.declared.Item.TheVariants.{Coded, BoolEq, BoolLe, BoolLt, BoolUnequal, ArrayBoolOr, SetInRange}
use Rattle.flatzinc.specs.declared.FlatZinc.{FlatZinc}
use Rattle.flatzinc.specs.Items as i
use Rattle.flatzinc.specs.Seen as seen
use Rattle.flattening.specs.Booleans.{is_bools, boolean_atom, boolean_item, boolean_given}
use Rattle.flattening.specs.Flattened.{BooleanAtom, EachBoolean, ItemTyped, EqualTyped, GivenTyped}

-- both tests hold of what both say
both-true : (a b : Bool) → (a && b) ≡ true → (a ≡ true) × (b ≡ true)
both-true true b e = (refl, e)
both-true false b e = false-true e

bools-domain : (d : Domain) → is_bools d ≡ true → seen.domain d ≡ i.bools
bools-domain Bools e = refl
bools-domain (Between lo hi) e = false-true e
bools-domain (Among S) e = false-true e

got-declared : (ds : List Declared) (v : ℕ) (d : Declared) → v < length ds → get_or (map seen.declared ds) v i.undeclared ≡ seen.declared (get_or ds v d)
got-declared [] v d l = absurd (omega arith)
got-declared (c ∷ ds) zero d l = refl
got-declared (c ∷ ds) (suc v) d l = got-declared ds v d (omega arith)

module _ (F : FlatZinc) where
  abbrev pub G : i.FlatZinc
  G = seen.flatzinc F

  atom : (a : Atom) → boolean_atom F.variables.items a ≡ true → BooleanAtom G a
  atom (Whole n) e = false-true e
  atom (Truth b) e = tt
  atom (Variable v) e =
      let h = both-true (ltb v (length F.variables.items)) _ e in
      let l = ltb-true v (length F.variables.items) h.0 in (
        subst (λ n. v < n) (sym (length-map F.variables.items seen.declared)) l,
        ap (λ (d : i.Declared). d.domain) (got-declared F.variables.items v (record { domain = Bools; given = None }) l)
            ∙ bools-domain _ h.1,
      )

  atoms : (as₁ : List Atom) → list_all (boolean_atom F.variables.items) as₁ ≡ true → EachBoolean G as₁
  atoms [] e = tt
  atoms (a ∷ as₁) e = let h = both-true (boolean_atom F.variables.items a) (list_all (boolean_atom F.variables.items) as₁) e in (atom a h.0, atoms as₁ h.1)

  two : (a b : Atom) → (boolean_atom F.variables.items a && boolean_atom F.variables.items b) ≡ true → BooleanAtom G a × BooleanAtom G b
  two a b e = let h = both-true (boolean_atom F.variables.items a) (boolean_atom F.variables.items b) e in (atom a h.0, atom b h.1)

  one_item : (x : Item) → boolean_item F.variables.items x ≡ true → ItemTyped G (seen.item x)
  one_item (Coded c vs) e = tt
  one_item (BoolEq a b) e = two a b e
  one_item (BoolLe a b) e = two a b e
  one_item (BoolLt a b) e = two a b e
  one_item (BoolUnequal a b) e = two a b e
  one_item (ArrayBoolOr as₁ r) e =
      let h = both-true (list_all (boolean_atom F.variables.items) as₁.items) (boolean_atom F.variables.items r) e in
      (atoms as₁.items h.0, atom r h.1)
  one_item (SetInRange x lo hi) e = tt

  pub items_typed : (xs : List Item) → list_all (boolean_item F.variables.items) xs ≡ true → All (ItemTyped G) (map seen.item xs)
  items_typed [] e = tt
  items_typed (x ∷ xs) e =
      let h = both-true (boolean_item F.variables.items x) (list_all (boolean_item F.variables.items) xs) e in
      (one_item x h.0, items_typed xs h.1)

  equal : (d : Domain) (a : Atom) → elim (is_bools d) [ true ↦ boolean_atom F.variables.items a | false ↦ true ] ≡ true → EqualTyped G (seen.domain d) a
  equal Bools a e = atom a e
  equal (Between lo hi) a e = tt
  equal (Among S) a e = tt

  given : (d : Domain) (o : Option Atom) → boolean_given F.variables.items (record { domain = d; given = o }) ≡ true → GivenTyped G (seen.domain d) o
  given d None e = tt
  given d (Some a) e = equal d a e

  pub givens_typed : (ds : List Declared) → list_all (boolean_given F.variables.items) ds ≡ true → All (λ (d : i.Declared). GivenTyped G d.domain d.given) (map seen.declared ds)
  givens_typed [] e = tt
  givens_typed (d ∷ ds) e =
      let h = both-true (boolean_given F.variables.items d) (list_all (boolean_given F.variables.items) ds) e in
      (given d.domain d.given h.0, givens_typed ds h.1)
