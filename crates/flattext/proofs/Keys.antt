-- A key that is inserted leaves the others where they were found.
use Rattle.std.proofs.Common.{◌≡◌, ℕ, Bool, true, false, ◌||◌, List, [], ◌∷◌, refl, sym, subst}
use Rattle.std.specs.Prelude.{Vec}
use Rattle.std.proofs.lemmas.Bool.{false≢true}
use Rattle.std.specs.List.{list_any}
use Rattle.std.specs.BTreeSet.{BTreeSet, insert_key}
use Rattle.std.specs.BTreeMap.{is_at}
use Rattle.std.specs.Ordering.{match_ordering, nat_cmp}
use Rattle.std.specs.Cmp.Lexicographic.{slice_cmp}
use Rattle.flattext.specs.Name.{has}
use Rattle.std.specs.declared.cmp.Ordering.{Ordering}
use Rattle.std.specs.declared.cmp.Ordering.TheVariants.{Less, Equal, Greater}

more : (a b : Bool) → b ≡ true → a || b ≡ true
more true b h = refl
more false b h = h

step : (a b c : Bool) → a || b ≡ true → (b ≡ true → c ≡ true) → a || c ≡ true
step true b c h f = refl
step false b c h f = f h

after : {K : Type 0} (p : K → Bool) (k x : K) (xs ys : List K) (o : Ordering) → p x || list_any p xs ≡ true → (list_any p xs ≡ true → list_any p ys ≡ true) → list_any p (match_ordering o (k ∷ x ∷ xs) (x ∷ xs) (x ∷ ys)) ≡ true
after p k x xs ys Less h f = more (p k) (p x || list_any p xs) h
after p k x xs ys Equal h f = h
after p k x xs ys Greater h f = step (p x) (list_any p xs) (list_any p ys) h f

pub kept : {K : Type 0} (cmp : K → K → Ordering) (p : K → Bool) (ks : List K) (k : K) → list_any p ks ≡ true → list_any p (insert_key cmp ks k) ≡ true
kept cmp p [] k h = absurd (false≢true h)
kept cmp p (x ∷ xs) k h = after p k x xs (insert_key cmp xs k) (cmp k x) h (kept cmp p xs k)

pub has_more : {A : Type 0} (old new : BTreeSet (Vec ℕ A)) (k : Vec ℕ A) → new.keys ≡ insert_key (λ x y. slice_cmp nat_cmp x.items y.items) old.keys k → (bs : List ℕ) → has old bs ≡ true → has new bs ≡ true
has_more {A} old new k e bs h =
    let found : Vec ℕ A → Bool = is_at (λ (x : Vec ℕ A). slice_cmp nat_cmp bs x.items) in
    subst (λ ks. list_any found ks ≡ true) (sym e) (kept (λ x y. slice_cmp nat_cmp x.items y.items) found old.keys k h)
