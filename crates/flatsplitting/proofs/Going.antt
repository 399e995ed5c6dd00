-- A list on the way of being cut: what is added so far and what the rest of the list still adds are what the whole list adds.
use Rattle.std.proofs.Common.{◌≡◌, refl, sym, ap, ap₂, ◌∙◌, subst, List, [], ◌∷◌, ◌++◌, map, append_assoc, append-nil, ℕ, ◌+◌, ◌-◌, ◌<◌, ◌≤◌, arith, length, length-drop, take, drop, Option, Some}
use Rattle.std.proofs.lemmas.List.{map-append, drop-append-le, drop-drop, take_all}
use Rattle.integers.specs.declared.Bounds.{Bounds}
use Rattle.models.specs.Builtin.{Builtin}
use Rattle.flatsplitting.specs.declared.Parted.{Parted}
use Rattle.flatsplitting.specs.declared.Reading.{Reading}
use Rattle.flatsplitting.specs.declared.Reading.TheVariants as r
use Rattle.flatsplitting.specs.Added.{built, bounds, Adds, AddsPart}
use Rattle.flatsplitting.specs.Pieces.{Cutting, Pieces, cut_up, of_list}
use Rattle.flatsplitting.proofs.Pieces.{next, last}

drop_twice : {A : Type 0} (a b : ℕ) (xs : List A) → drop (a + b) xs ≡ drop b (drop a xs)
drop_twice a b xs = sym (drop-drop b a xs)

-- what stands from a place on
pub from_place : {A : Type 0} (xs ys : List A) (at : ℕ) → ys ≡ xs → take (length ys - at) (drop at ys) ≡ drop at xs
from_place xs ys at e = let d = length-drop at xs in rw e (take_all (length xs - at) (drop at xs) (omega arith))

module _ {A : Type 0} (C : Cutting A) where
  pub record Going (from to : Parted) (whole rest : List A) : Type 0 where
    pub parts : bounds to ++ (cut_up C (bounds to) rest).bounds ≡ bounds from ++ (cut_up C (bounds from) whole).bounds
    pub calls : built to.calls.items ++ map Some (cut_up C (bounds to) rest).builtins ≡ built from.calls.items ++ map Some (cut_up C (bounds from) whole).builtins
    pub left : (cut_up C (bounds to) rest).rest ≡ (cut_up C (bounds from) whole).rest

  pub going-start : (a : Parted) (xs : List A) → Going a a xs xs
  going-start a xs = record { parts = refl; calls = refl; left = refl }

  module _ (two : 1 < C.at) (few : C.at ≤ 32) where
    pub going-step : (from mid to : Parted) (whole xs ys : List A) → Going from mid whole xs → 32 < length xs → AddsPart C mid to (take C.at xs) →
        ys ≡ drop C.at xs ++ C.named (length (bounds mid)) ∷ [] → Going from to whole ys
    going-step from mid to whole xs ys g l a e =
        let first = take C.at xs in
        let B = C.part (bounds mid) first in
        let D = C.defining (length (bounds mid)) first in
        let r = cut_up C (bounds mid ++ B ∷ []) (drop C.at xs ++ C.named (length (bounds mid)) ∷ []) in
        let n = next C two few (bounds mid) xs l in
        let q : cut_up C (bounds to) ys ≡ r = ap₂ (cut_up C) a.parts e in
        record {
          parts = ap₂ (λ (Bs : List Bounds) (p : Pieces A). Bs ++ p.bounds) a.parts q ∙ append_assoc (bounds mid) (B ∷ []) r.bounds ∙ ap (λ (p : Pieces A). bounds mid ++ p.bounds) (sym n) ∙ g.parts;
          calls = ap₂ (λ (os : List (Option Builtin)) (p : Pieces A). os ++ map Some p.builtins) a.calls q ∙ append_assoc (built mid.calls.items) (map Some D) (map Some r.builtins)
              ∙ ap (λ os. built mid.calls.items ++ os) (sym (map-append Some D r.builtins) ∙ ap (λ (p : Pieces A). map Some p.builtins) (sym n)) ∙ g.calls;
          left = ap (λ (p : Pieces A). p.rest) q ∙ ap (λ (p : Pieces A). p.rest) (sym n) ∙ g.left;
        }

    pub going-end : (from to : Parted) (whole xs : List A) → Going from to whole xs → length xs ≤ 32 →
        (let p = cut_up C (bounds from) whole in Adds from to p.bounds (map Some p.builtins) × (xs ≡ p.rest))
    going-end from to whole xs g l =
        let n = last C two few (bounds to) xs l in (
          record {
            parts = sym (append-nil (bounds to)) ∙ ap (λ (p : Pieces A). bounds to ++ p.bounds) (sym n) ∙ g.parts;
            calls = sym (append-nil (built to.calls.items)) ∙ ap (λ (p : Pieces A). built to.calls.items ++ map Some p.builtins) (sym n) ∙ g.calls;
          },
          ap (λ (p : Pieces A). p.rest) (sym n) ∙ g.left,
        )

    -- the list stands from a place on, and the part is put at its end
    pub going-on : (from mid to : Parted) (whole xs ys s : List A) (at n : ℕ) (x : A) → Going from mid whole (drop at xs) → at + 32 < length xs → AddsPart C mid to s →
        s ≡ take C.at (drop at xs) → x ≡ C.named (length (bounds mid)) → ys ≡ xs ++ x ∷ [] → n ≡ C.at → Going from to whole (drop (at + n) ys)
    going-on from mid to whole xs ys s at n x g l a e f h k =
        let d = length-drop at xs in
        going-step from mid to whole (drop at xs) (drop (at + n) ys) g (omega arith) (subst (λ (z : List A). AddsPart C mid to z) e a)
        (ap (drop (at + n)) h ∙ drop-append-le (at + n) xs (x ∷ []) (omega arith) ∙ ap (λ l. l ++ x ∷ []) (drop_twice at n xs)
        ∙ ap₂ (λ (m : ℕ) (y : A). drop m (drop at xs) ++ y ∷ []) k f)

-- ---- the cuts of lists

pub sizes : (r : Reading) → (1 < (of_list r).at) × ((of_list r).at ≤ 32)
sizes r.All = (omega arith, omega arith)
sizes r.Any = (omega arith, omega arith)
sizes r.Largest = (omega arith, omega arith)
sizes r.Least = (omega arith, omega arith)

pub names : (r : Reading) (n : ℕ) → n ≡ (of_list r).named n
names r.All n = refl
names r.Any n = refl
names r.Largest n = refl
names r.Least n = refl
