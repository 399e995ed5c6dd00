-- Calls on the way of being split: what is added so far and what the calls that are left still add are what all calls add.
use Rattle.std.proofs.Common.{◌≡◌, refl, sym, ap, ap₂, ◌∙◌, subst, List, [], ◌∷◌, ◌++◌, append_assoc, append-nil, map, ℕ, ◌+◌, ◌≤◌, arith, Some}
use Rattle.std.specs.Prelude.{option_and_then}
use Rattle.std.proofs.lemmas.List.{map-append}
use Rattle.integers.specs.declared.Bounds.{Bounds}
use Rattle.integers.proofs.Lists.{all_implies}
use Rattle.integers.proofs.Tests.{All}
use Rattle.models.specs.Builtin.{Builtin}
use Rattle.flatzinc.specs.declared.Call.{Call}
use Rattle.flatzinc.specs.System.{System}
use Rattle.flatzinc.specs.Calls.{built_call, built_all}
use Rattle.flatzinc.proofs.Built.{some_is, and_then}
use Rattle.flatsplitting.specs.declared.Parted.{Parted}
use Rattle.flatsplitting.specs.Split.{split, split_all, cut_size, enough}
use Rattle.flatsplitting.specs.Added.{built, bounds, Adds}
use Rattle.flatsplitting.specs.IsSplit.{IsSplit}
use Rattle.flatsplitting.proofs.Pieces.{more}

pub record Along (f : ℕ) (Bs : List Bounds) (bs : List Builtin) (to : Parted) (rest : List Call) : Type 0 where
  pub left : List Builtin
  pub calls_are : built_all rest ≡ Some left
  pub small : All (λ b. cut_size b ≤ f) left
  pub parts : bounds to ++ (split_all f (bounds to) left).bounds ≡ Bs ++ (split_all f Bs bs).bounds
  pub calls : built to.calls.items ++ map Some (split_all f (bounds to) left).builtins ≡ map Some (split_all f Bs bs).builtins

pub each_small : (bs : List Builtin) → All (λ b. cut_size b ≤ enough bs) bs
unfolding enough
each_small [] = tt
each_small (b ∷ bs) = (omega arith, all_implies (λ d. cut_size d ≤ enough bs) (λ d. cut_size d ≤ cut_size b + enough bs) (λ d h. omega arith) bs (each_small bs))

pub along-start : (Bs : List Bounds) (bs : List Builtin) (start : Parted) (cs : List Call) → bounds start ≡ Bs → start.calls.items ≡ [] → built_all cs ≡ Some bs → Along (enough bs) Bs bs start cs
along-start Bs bs start cs e f n = record {
  left = bs;
  calls_are = n;
  small = each_small bs;
  parts = ap (λ Ds. Ds ++ (split_all (enough bs) Ds bs).bounds) e;
  calls = ap (λ (l : List Call). built l ++ map Some (split_all (enough bs) (bounds start) bs).builtins) f ∙ ap (λ Ds. map Some (split_all (enough bs) Ds bs).builtins) e;
}

pub along-step : (f : ℕ) (Bs : List Bounds) (bs : List Builtin) (mid to : Parted) (k : Call) (rest : List Call) → Along f Bs bs mid (k ∷ rest) →
    ((b : Builtin) → built_call k ≡ Some b → (let S = split (cut_size b) (bounds mid) b in Adds mid to S.bounds (map Some S.builtins))) → Along f Bs bs to rest
unfolding built_all split_all
along-step f Bs bs mid to k rest a add =
    let q = and_then (built_call k) (λ b. option_and_then (λ ds. Some (b ∷ ds)) (built_all rest)) a.left a.calls_are in
    let b = q.0 in
    let j = and_then (built_all rest) (λ ds. Some (b ∷ ds)) a.left q.1.1 in
    let ds = j.0 in
    by_head b ds q.1.0 j.1.0 (subst (λ (l : List Builtin). All (λ d. cut_size d ≤ f) l) (sym (some_is (b ∷ ds) a.left j.1.1)) a.small)
    (ap (λ (l : List Builtin). bounds mid ++ (split_all f (bounds mid) l).bounds) (some_is (b ∷ ds) a.left j.1.1) ∙ a.parts)
    (ap (λ (l : List Builtin). built mid.calls.items ++ map Some (split_all f (bounds mid) l).builtins) (some_is (b ∷ ds) a.left j.1.1) ∙ a.calls)
  where
    by_head : (b : Builtin) (ds : List Builtin) → built_call k ≡ Some b → built_all rest ≡ Some ds → All (λ d. cut_size d ≤ f) (b ∷ ds) →
        bounds mid ++ (split_all f (bounds mid) (b ∷ ds)).bounds ≡ Bs ++ (split_all f Bs bs).bounds →
        built mid.calls.items ++ map Some (split_all f (bounds mid) (b ∷ ds)).builtins ≡ map Some (split_all f Bs bs).builtins → Along f Bs bs to rest
    by_head b ds h n s parts calls =
        let S = split f (bounds mid) b in
        let same : split (cut_size b) (bounds mid) b ≡ S = more (cut_size b) f (bounds mid) b (omega arith) s.0 in
        let d : Adds mid to S.bounds (map Some S.builtins) = subst (λ (T : System). Adds mid to T.bounds (map Some T.builtins)) same (add b h) in
        let r = split_all f (bounds mid ++ S.bounds) ds in
        record {
          left = ds;
          calls_are = n;
          small = s.1;
          parts = ap (λ Ds. Ds ++ (split_all f Ds ds).bounds) d.parts ∙ append_assoc (bounds mid) S.bounds r.bounds ∙ parts;
          calls = ap₂ (λ os (Ds : List Bounds). os ++ map Some (split_all f Ds ds).builtins) d.calls d.parts
              ∙ append_assoc (built mid.calls.items) (map Some S.builtins) (map Some r.builtins) ∙ ap (λ os. built mid.calls.items ++ os) (sym (map-append Some S.builtins r.builtins)) ∙ calls;
        }

all-built : (cs : List Call) (bs : List Builtin) → built cs ≡ map Some bs → built_all cs ≡ Some bs
unfolding built_all
all-built [] [] e = refl
all-built [] (b ∷ bs) e = absurd_list e
  where
    absurd_list : {G : Type 0} → [] ≡ Some b ∷ map Some bs → G
    absurd_list e = cc
all-built (k ∷ cs) [] e = absurd_list e
  where
    absurd_list : {G : Type 0} → built_call k ∷ built cs ≡ [] → G
    absurd_list e = cc
all-built (k ∷ cs) (b ∷ bs) e =
    let h : built_call k ≡ Some b = cc in
    let t : built cs ≡ map Some bs = cc in
    rw (h, all-built cs bs t) refl

pub along-end : (Bs : List Bounds) (bs : List Builtin) (to : Parted) → Along (enough bs) Bs bs to [] → IsSplit Bs bs to
unfolding built_all split_all
along-end Bs bs to a =
    let n : [] ≡ a.left = some_is [] a.left a.calls_are in
    record {
      bounds = sym (append-nil (bounds to)) ∙ ap (λ (l : List Builtin). bounds to ++ (split_all (enough bs) (bounds to) l).bounds) n ∙ a.parts;
      builtins = all-built to.calls.items (split_all (enough bs) Bs bs).builtins
          (sym (append-nil (built to.calls.items)) ∙ ap (λ (l : List Builtin). built to.calls.items ++ map Some (split_all (enough bs) (bounds to) l).builtins) n ∙ a.calls);
    }
