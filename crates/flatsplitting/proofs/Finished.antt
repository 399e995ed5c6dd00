-- What is added for a call, from what is added for its lists.
use Rattle.std.proofs.Common.{◌≡◌, refl, sym, ap, ap₂, ◌∙◌, subst, List, [], ◌∷◌, ◌++◌, append_assoc, append-nil, map, ℕ, get_or, Option, Some, Result, Ok, Err, OnOk, Vec, Global}
use Rattle.std.specs.Prelude.{slice_set}
use Rattle.integers.specs.Number.{+0}
use Rattle.std.proofs.lemmas.List.{map-append}
use Rattle.integers.specs.Terms.{Term}
use Rattle.integers.specs.declared.Bounds.{Bounds}
use Rattle.models.specs.Builtin.{Builtin}
use Rattle.models.specs.declared.code.Code.{Code}
use Rattle.flatzinc.specs.declared.Argument.{Argument}
use Rattle.flatzinc.specs.declared.Argument.TheVariants.{Number, Many, Sum}
use Rattle.flatzinc.specs.declared.Atom.{Atom}
use Rattle.flatzinc.specs.declared.Product.{Product}
use Rattle.flatzinc.specs.declared.Call.{Call}
use Rattle.flatzinc.specs.declared.trouble.Trouble.{Trouble}
use Rattle.flatzinc.specs.Numbers.{number_of, bounds_of}
use Rattle.flatzinc.specs.System.{System}
use Rattle.flatzinc.specs.Calls.{numbers_of, terms_of, built_call}
use Rattle.flatzinc.proofs.Built.{atoms-numbered, terms-numbered}
use Rattle.flatsplitting.specs.declared.Parted.{Parted}
use Rattle.flatsplitting.specs.declared.Reading.{Reading}
use Rattle.flatsplitting.specs.Split.{split, cut_size}
use Rattle.flatsplitting.specs.Pieces.{Cutting, Pieces, cut_up, of_sum, of_all, of_some, of_list}
use Rattle.flatsplitting.specs.Added.{built, built_of, product_term, bounds, Adds}
use Rattle.flatsplitting.specs.Called.{listed, summed, list_at, terms_at, CutListAt, CutSumAt, CutCall}
use Rattle.flatsplitting.proofs.Enough.{Uncut}
use Rattle.flatsplitting.proofs.Pieces.{uncut-stays}
use Rattle.flatsplitting.proofs.Added.{adds-then}
use Rattle.flatsplitting.proofs.Called.{LeftOfSum, LeftOfList, LeftOfClause}

finished : (old new : Parted) (k : Code) (hs : List Argument) (b : Builtin) (Ps : List Bounds) (bs : List Builtin) (b' : Builtin) → Adds old new Ps (map Some bs) → built_of k hs ≡ Some b' →
    split (cut_size b) (bounds old) b ≡ record { bounds = Ps; builtins = bs ++ b' ∷ [] } → CutCall old new k hs b
finished old new k hs b Ps bs b' a e s = record {
  parts = a.parts ∙ ap (λ (S : System). bounds old ++ S.bounds) (sym s);
  calls = ap₂ (λ os o. os ++ o ∷ []) a.calls e ∙ append_assoc (built old.calls.items) (map Some bs) (Some b' ∷ [])
      ∙ ap (λ os. built old.calls.items ++ os) (sym (map-append Some bs (b' ∷ [])) ∙ ap (λ (S : System). map Some S.builtins) (sym s));
}

-- of a clause, after its positive part
clause_done : (r : Result (Unit {0}) Trouble) (old mid new : Parted) (k : Code) (ms hs : List Argument) (b : Builtin) (p : Pieces ℕ) (ys : List ℕ) →
    (let q = cut_up of_all (bounds old ++ p.bounds) ys in (w : Vec Atom Global) → numbers_of w.items ≡ Some q.rest →
    (b' : Builtin) × ((built_of k (slice_set ms 1 (Many w)) ≡ Some b') × (split (cut_size b) (bounds old) b ≡ record { bounds = p.bounds ++ q.bounds; builtins = (p.builtins ++ q.builtins) ++ b' ∷ [] }))) →
    Adds old mid p.bounds (map Some p.builtins) → OnOk r (CutListAt of_all mid new ms hs 1 ys) → OnOk r (CutCall old new k hs b)
clause_done (Err x) old mid new k ms hs b p ys z a t = tt
clause_done (Ok u) old mid new k ms hs b p ys z a t =
    let q = cut_up of_all (bounds old ++ p.bounds) ys in
    let n : numbers_of t.list.items ≡ Some q.rest = subst (λ (Bs : List Bounds). numbers_of t.list.items ≡ Some (cut_up of_all Bs ys).rest) a.parts t.rest in
    let d : Adds mid new q.bounds (map Some q.builtins) =
    subst (λ (Bs : List Bounds). Adds mid new (cut_up of_all Bs ys).bounds (map Some (cut_up of_all Bs ys).builtins)) a.parts t.adds in
    let both : Adds old new (p.bounds ++ q.bounds) (map Some (p.builtins ++ q.builtins)) =
    subst (λ (os : List (Option Builtin)). Adds old new (p.bounds ++ q.bounds) os) (sym (map-append Some p.builtins q.builtins))
    (adds-then old mid new p.bounds q.bounds (map Some p.builtins) (map Some q.builtins) a d) in
    let y = z t.list n in
    finished old new k hs b (p.bounds ++ q.bounds) (p.builtins ++ q.builtins) y.0 both (ap (built_of k) t.put ∙ y.1.0) y.1.1

-- a list that was cut is put in its place
pub list_put : (C : Cutting ℕ) (old new : Parted) (gs hs : List Argument) (at : ℕ) (xs : List ℕ) (w v : Vec Atom Global) (as₁ : List Atom) → hs ≡ gs → Many w ≡ get_or hs at (Number +0) → as₁ ≡ w.items →
    list_at gs at ≡ Some xs →
    (let p = cut_up C (bounds old) (map number_of as₁) in Adds old new p.bounds (map Some p.builtins) × (numbers_of v.items ≡ Some p.rest)) → CutListAt C old new gs (slice_set gs at (Many v)) at xs
list_put C old new gs hs at xs w v as₁ e f g n a =
    let i : numbers_of w.items ≡ Some xs = ap listed f ∙ ap (λ l. list_at l at) e ∙ n in
    let m : map number_of as₁ ≡ xs = ap (map number_of) g ∙ atoms-numbered w.items xs i in
    let h = subst (λ (ys : List ℕ). let p = cut_up C (bounds old) ys in Adds old new p.bounds (map Some p.builtins) × (numbers_of v.items ≡ Some p.rest)) m a in
    record { list = v; put = refl; rest = h.1; adds = h.0 }

pub sum_put : (old new : Parted) (gs hs : List Argument) (ts : List (Term ℕ)) (w v : Vec Product Global) (ps : List Product) → hs ≡ gs → Sum w ≡ get_or hs 0 (Number +0) → ps ≡ w.items →
    terms_at gs 0 ≡ Some ts →
    (let p = cut_up of_sum (bounds old) (map product_term ps) in Adds old new p.bounds (map Some p.builtins) × (terms_of v.items ≡ Some p.rest)) → CutSumAt old new gs (slice_set gs 0 (Sum v)) ts
sum_put old new gs hs ts w v ps e f g n a =
    let i : terms_of w.items ≡ Some ts = ap summed f ∙ ap (λ l. terms_at l 0) e ∙ n in
    let m : map product_term ps ≡ ts = ap (map product_term) g ∙ terms-numbered w.items ts i in
    let h = subst (λ (us : List (Term ℕ)). let p = cut_up of_sum (bounds old) us in Adds old new p.bounds (map Some p.builtins) × (terms_of v.items ≡ Some p.rest)) m a in
    record { list = v; put = refl; rest = h.1; adds = h.0 }

module _ (r : Result (Unit {0}) Trouble) (old new : Parted) (k : Code) (gs hs : List Argument) (b : Builtin) where
  pub sum_call : LeftOfSum k gs b → ((ts : List (Term ℕ)) → terms_at gs 0 ≡ Some ts → OnOk r (CutSumAt old new gs hs ts)) → OnOk r (CutCall old new k hs b)
  sum_call l a = go r (a l.0 l.1.0)
    where
      go : (r : Result (Unit {0}) Trouble) → OnOk r (CutSumAt old new gs hs l.0) → OnOk r (CutCall old new k hs b)
      go (Err x) q = tt
      go (Ok u) q =
          let p = cut_up of_sum (bounds old) l.0 in
          let z = l.1.1 (bounds old) q.list q.rest in
          finished old new k hs b p.bounds p.builtins z.0 q.adds (ap (built_of k) q.put ∙ z.1.0) z.1.1

  pub list_call : (at : ℕ) (d : Reading) → LeftOfList at d k gs b → ((xs : List ℕ) → list_at gs at ≡ Some xs → OnOk r (CutListAt (of_list d) old new gs hs at xs)) →
      OnOk r (CutCall old new k hs b)
  list_call at d l a = go r (a l.0 l.1.0)
    where
      go : (r : Result (Unit {0}) Trouble) → OnOk r (CutListAt (of_list d) old new gs hs at l.0) → OnOk r (CutCall old new k hs b)
      go (Err x) q = tt
      go (Ok u) q =
          let p = cut_up (of_list d) (bounds old) l.0 in
          let z = l.1.1 (bounds old) q.list q.rest in
          finished old new k hs b p.bounds p.builtins z.0 q.adds (ap (built_of k) q.put ∙ z.1.0) z.1.1

  pub clause_call : (mid : Parted) (ms : List Argument) → LeftOfClause k gs b → ((xs : List ℕ) → list_at gs 0 ≡ Some xs → CutListAt of_some old mid gs ms 0 xs) →
      ((ys : List ℕ) → list_at ms 1 ≡ Some ys → OnOk r (CutListAt of_all mid new ms hs 1 ys)) → OnOk r (CutCall old new k hs b)
  clause_call mid ms l first second =
      let xs = l.0 in
      let ys = l.1 in
      let one = first xs l.2.0 in
      let rest = l.2.1 (bounds old) one.list one.rest in
      clause_done r old mid new k ms hs b (cut_up of_some (bounds old) xs) ys
      (λ w n. let z = rest.1 w n in (z.0, (ap (λ m. built_of k (slice_set m 1 (Many w))) one.put ∙ z.1.0, z.1.1))) one.adds (second ys (ap (λ m. list_at m 1) one.put ∙ rest.0))

  pub uncut_call : Uncut b → built_of k gs ≡ Some b → CutCall old old k gs b
  uncut_call u e =
      let s = uncut-stays (cut_size b) (bounds old) b u in
      finished old old k gs b [] [] b (record { parts = sym (append-nil (bounds old)); calls = sym (append-nil (built old.calls.items)) }) e s

-- a call is put after what its lists added
pub put-call : (old mid new : Parted) (k : Call) (b : Builtin) → CutCall old mid k.code k.arguments.items b → new.variables.items ≡ mid.variables.items → new.calls.items ≡ mid.calls.items ++ k ∷ [] →
    (let S = split (cut_size b) (bounds old) b in Adds old new S.bounds (map Some S.builtins))
unfolding built_call
put-call old mid new k b c v e = record {
  parts = ap bounds_of v ∙ c.parts;
  calls = ap built e ∙ map-append built_call mid.calls.items (k ∷ []) ∙ c.calls;
}
