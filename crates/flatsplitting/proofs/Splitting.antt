-- Cut by cut: where each cut is right, a system is carried over to its split one.
use Rattle.std.proofs.Common.{◌≡◌, refl, sym, ap, ◌∙◌, subst, ◌↔◌, List, [], ◌∷◌, ◌++◌, append_assoc, append-nil, ℕ, zero, suc, ◌+◌, ◌<◌, arith, ℤ, length, length-append, Option, Some, None}
use lib.ListN.{get_or-append}
use Rattle.integers.specs.Bounds.{bit, bounds_in}
use Rattle.integers.specs.Terms.{Valuation, value}
use Rattle.integers.specs.declared.Bounds.{Bounds}
use Rattle.integers.proofs.Lists.{all_append, all_implies}
use Rattle.integers.proofs.Tests.{In, All}
use Rattle.models.specs.Builtin.{Builtin}
use Rattle.models.specs.Meaning.{meaning}
use Rattle.models.proofs.Arguments.{integer_arguments, boolean_arguments}
use Rattle.sharing.proofs.Good.{Keeps}
use Rattle.sharing.proofs.Gates.{keeps-append}
use Rattle.sharing.proofs.Satisfied.{satisfies, keeps-agree}
use Rattle.sharing.proofs.Shared.{agrees}
use Rattle.flatzinc.specs.System.{System, Solves, Carries}
use Rattle.flatsplitting.specs.Split.{Cut, cut, with_cut, split, split_all}
use Rattle.flatzinc.proofs.Carried.{carries_as, carries_nothing, carries_through}
use Rattle.flatzinc.proofs.Solved.{True, AllTrue, Sol, sol_as}
use Rattle.flatzinc.proofs.Agreeing.{Typed, typed-agrees}

-- the values agree at the first n variables
abbrev pub Below : ℕ → Valuation → Valuation → Type 0
Below n σ τ = (v : ℕ) → v < n → σ v ≡ τ v

-- what is proved of a cut: the part has one value, which the other variables give and its bounds allow; its builtins say that it has it; and then the
-- rest is as true as the builtin that was cut
pub record Cuts (Bs : List Bounds) (b : Builtin) (c : Cut) : Type 0 where
  pub value_of : Valuation → ℤ
  pub stays : (σ τ : Valuation) → Below (length Bs) σ τ → value_of σ ≡ value_of τ
  pub inside : (σ : Valuation) → Keeps Bs σ → In c.part (value_of σ)
  pub defined : (τ : Valuation) → Keeps Bs τ → In c.part (τ (length Bs)) → AllTrue c.defining τ ↔ (τ (length Bs) ≡ value_of τ)
  pub rest : (τ : Valuation) → Keeps Bs τ → τ (length Bs) ≡ value_of τ → meaning τ c.rest ≡ meaning τ b
  pub typed_defining : All (Typed (Bs ++ c.part ∷ [])) c.defining
  pub typed_rest : Typed (Bs ++ c.part ∷ []) c.rest

-- ---- what is said of the first variables alone

abbrev pub Reads : ℕ → (Valuation → Type 0) → Type 0
Reads n K = (σ τ : Valuation) → Below n σ τ → K σ → K τ

pub reads-all : (Bs : List Bounds) (bs : List Builtin) → All (Typed Bs) bs → Reads (length Bs) (AllTrue bs)
reads-all Bs [] t σ τ e h = tt
reads-all Bs (b ∷ bs) t σ τ e h = (sym (typed-agrees σ τ Bs e b t.0) ∙ h.0, reads-all Bs bs t.1 σ τ e h.1)

reads-both : {n : ℕ} {K L : Valuation → Type 0} → Reads n K → Reads n L → Reads n (λ σ. K σ × L σ)
reads-both r s σ τ e h = (r σ τ e h.0, s σ τ e h.1)

reads_more : (Bs Cs : List Bounds) {K : Valuation → Type 0} → Reads (length Bs) K → Reads (length (Bs ++ Cs)) K
reads_more Bs Cs r σ τ e h = r σ τ (λ v l. e v (let k = length-append Bs Cs in omega arith)) h

pub typed_more : (Bs Cs : List Bounds) (b : Builtin) → Typed Bs b → Typed (Bs ++ Cs) b
unfolding bounds_in
typed_more Bs Cs b t = (
  all_implies (λ v. v < length Bs) (λ v. v < length (Bs ++ Cs)) further (integer_arguments b) t.0,
  all_implies (λ v. (v < length Bs) × (bounds_in Bs v ≡ bit)) (λ v. (v < length (Bs ++ Cs)) × (bounds_in (Bs ++ Cs) v ≡ bit))
      (λ v h. (further v h.0, get_or-append Bs Cs _ v h.0 ∙ h.1)) (boolean_arguments b) t.1,
)
  where
    further : (v : ℕ) → v < length Bs → v < length (Bs ++ Cs)
    further v l = let k = length-append Bs Cs in omega arith

pub all_typed_more : (Bs Cs : List Bounds) (bs : List Builtin) → All (Typed Bs) bs → All (Typed (Bs ++ Cs)) bs
all_typed_more Bs Cs bs t = all_implies (Typed Bs) (Typed (Bs ++ Cs)) (typed_more Bs Cs) bs t

-- ---- one cut

module _ (Bs : List Bounds) (b : Builtin) (c : Cut) (p : Cuts Bs b c) (typed : Typed Bs b) (K : Valuation → Type 0) (reads : Reads (length Bs) K) where
  abbrev n : ℕ
  n = length Bs

  abbrev After : Valuation → Type 0
  After σ = (K σ × AllTrue c.defining σ) × True σ c.rest

  abbrev Old : List ℤ → Type 0
  Old = Sol Bs (λ σ. K σ × True σ b)

  abbrev New : List ℤ → Type 0
  New = Sol (Bs ++ c.part ∷ []) After

  module _ (vs : List ℤ) (x : ℤ) (e : length vs ≡ n) where
    abbrev τ : Valuation
    τ = value (vs ++ x ∷ [])

    old-same : Below n τ (value vs)
    old-same = (agrees n vs (x ∷ []) e).before

    same-old : Below n (value vs) τ
    same-old v l = sym (old-same v l)

    part-is : τ n ≡ x
    unfolding value
    part-is = subst (λ (k : ℕ). value (vs ++ x ∷ []) k ≡ x) (omega arith) ((agrees n vs (x ∷ []) e).after 0)

    kept : Keeps (Bs ++ c.part ∷ []) τ ↔ (Keeps Bs (value vs) × In c.part x)
    unfolding value
    kept =
        let k = keeps-append Bs (c.part ∷ []) τ (value (x ∷ [])) (agrees n vs (x ∷ []) e).after in (
          λ h. (keeps-agree Bs τ (value vs) old-same (k.0 h).0, (k.0 h).1.0),
          λ h. k.1 (keeps-agree Bs (value vs) τ same-old h.0, (h.1, tt)),
        )

    kept-old : Keeps Bs (value vs) → Keeps Bs τ
    kept-old h = keeps-agree Bs (value vs) τ same-old h

    long : length (vs ++ x ∷ []) ≡ length (Bs ++ c.part ∷ [])
    long = let h = length-append vs (x ∷ []) in let k = length-append Bs (c.part ∷ []) in omega arith

    -- with the part's value the new system is solved where the old one is
    one_way : x ≡ p.value_of (value vs) → Old vs → New (vs ++ x ∷ [])
    one_way f s =
        let i : τ n ≡ p.value_of τ = part-is ∙ f ∙ p.stays (value vs) τ same-old in
        let j : In c.part x = subst (In c.part) (sym f) (p.inside (value vs) s.1) in
        let k = kept-old s.1 in (
          long,
          kept.1 (s.1, j),
          (
            (reads (value vs) τ same-old s.2.0, (p.defined τ k (subst (In c.part) (sym part-is) j)).1 i),
            p.rest τ k i ∙ typed-agrees τ (value vs) Bs old-same b typed ∙ s.2.1,
          ),
        )

    -- no other value solves it
    its_value : New (vs ++ x ∷ []) → τ n ≡ p.value_of τ
    its_value s =
        let k = kept.0 s.1 in (p.defined τ (kept-old k.0) (subst (In c.part) (sym part-is) k.1)).0 s.2.0.1

    is-value : New (vs ++ x ∷ []) → x ≡ p.value_of (value vs)
    is-value s = sym part-is ∙ its_value s ∙ p.stays τ (value vs) old-same

    other_way : New (vs ++ x ∷ []) → Old vs
    other_way s =
        let k = kept.0 s.1 in
        (e, k.0, (reads τ (value vs) old-same s.2.0.0, typed-agrees (value vs) τ Bs same-old b typed ∙ sym (p.rest τ (kept-old k.0) (its_value s)) ∙ s.2.1))

  shorter : (vs : List ℤ) (x : ℤ) → New (vs ++ x ∷ []) → length vs ≡ n
  shorter vs x s = let e = s.0 in let h = length-append vs (x ∷ []) in let k = length-append Bs (c.part ∷ []) in omega arith

  back : (vs xs : List ℤ) → length xs ≡ 1 → New (vs ++ xs) → Old vs
  back vs [] f s = absurd (omega arith)
  back vs (x ∷ []) f s = other_way vs x (shorter vs x s) s
  back vs (x ∷ y ∷ zs) f s = absurd (omega arith)

  single : (vs xs : List ℤ) → length xs ≡ 1 → New (vs ++ xs) → xs ≡ p.value_of (value vs) ∷ []
  single vs [] f s = absurd (omega arith)
  single vs (x ∷ []) f s = ap (λ z. z ∷ []) (is-value vs x (shorter vs x s) s)
  single vs (x ∷ y ∷ zs) f s = absurd (omega arith)

  pub one_cut : Carries 1 Old New
  one_cut = record {
    same = λ vs. (
      λ s. (p.value_of (value vs) ∷ [], (refl, one_way vs (p.value_of (value vs)) s.0 refl s)),
      λ z. back vs z.0 z.1.0 z.1.1,
    );
    only = λ vs xs ys e f s t. single vs ys f t ∙ sym (single vs xs e s);
  }

-- ---- cut by cut

-- the builtins of a split system are typed, and it carries the old one
pub record SplitsWell (Bs : List Bounds) (bs : List Builtin) (S : System) : Type 1 where
  pub typed : All (Typed (Bs ++ S.bounds)) S.builtins
  pub carries : (K : Valuation → Type 0) → Reads (length Bs) K →
      Carries (length S.bounds) (Sol Bs (λ σ. K σ × AllTrue bs σ)) (Sol (Bs ++ S.bounds) (λ σ. K σ × AllTrue S.builtins σ))

-- builtins that are left as they are
left : (Bs : List Bounds) (bs : List Builtin) → All (Typed Bs) bs → SplitsWell Bs bs (record { bounds = []; builtins = bs })
left Bs bs t = record {
  typed = all_typed_more Bs [] bs t;
  carries = λ K r. carries_nothing (λ vs.
      subst (λ (l : List ℤ). Sol Bs (λ σ. K σ × AllTrue bs σ) vs ↔ Sol (Bs ++ []) (λ σ. K σ × AllTrue bs σ) l) (sym (append-nil vs))
      (sol_as (λ σ. K σ × AllTrue bs σ) (λ σ. K σ × AllTrue bs σ) (sym (append-nil Bs)) (λ σ. (λ h. h, λ h. h)) vs));
}

module _ (right : (Bs : List Bounds) (b : Builtin) (c : Cut) → Typed Bs b → cut Bs b ≡ Some c → Cuts Bs b c) where
  pub split_well : (f : ℕ) (Bs : List Bounds) (b : Builtin) → Typed Bs b → SplitsWell Bs (b ∷ []) (split f Bs b)
  unfolding split with_cut
  split_well zero Bs b t = left Bs (b ∷ []) (t, tt)
  split_well (suc f) Bs b t = by_cut (λ Ds d u. split_well f Ds d u) (cut Bs b) refl
    where
      by_cut : ((Ds : List Bounds) (d : Builtin) → Typed Ds d → SplitsWell Ds (d ∷ []) (split f Ds d)) → (o : Option Cut) → cut Bs b ≡ o → SplitsWell Bs (b ∷ []) (with_cut (split f) Bs b o)
      by_cut again None e = left Bs (b ∷ []) (t, tt)
      by_cut again (Some c) e =
          let p = right Bs b c t e in
          let Ds = Bs ++ c.part ∷ [] in
          let S = split f Ds c.rest in
          let r = again Ds c.rest p.typed_rest in
          let a : Ds ++ S.bounds ≡ Bs ++ c.part ∷ S.bounds = append_assoc Bs (c.part ∷ []) S.bounds in
          record {
            typed = subst (λ (Es : List Bounds). All (Typed Es) (c.defining ++ S.builtins)) a
                ((all_append (Typed (Ds ++ S.bounds)) c.defining S.builtins).1 (all_typed_more Ds S.bounds c.defining p.typed_defining, r.typed));
            carries = λ K k.
                let further = r.carries (λ σ. K σ × AllTrue c.defining σ) (reads-both (reads_more Bs (c.part ∷ []) k) (reads-all Ds c.defining p.typed_defining)) in
                let known = carries_as (length S.bounds)
                (sol_as (λ σ. (K σ × AllTrue c.defining σ) × AllTrue (c.rest ∷ []) σ) (λ σ. (K σ × AllTrue c.defining σ) × True σ c.rest) refl
                (λ σ. (λ h. (h.0, h.1.0), λ h. (h.0, (h.1, tt)))))
                (sol_as (λ σ. (K σ × AllTrue c.defining σ) × AllTrue S.builtins σ) (λ σ. K σ × AllTrue (c.defining ++ S.builtins) σ) a
                (λ σ. let j = all_append (True σ) c.defining S.builtins in (λ h. (h.0.0, j.1 (h.0.1, h.1)), λ h. ((h.0, (j.0 h.1).0), (j.0 h.1).1))))
                further in
                let both = carries_through 1 (length S.bounds) (one_cut Bs b c p t K k) known in
                let long : 1 + length S.bounds ≡ length (c.part ∷ S.bounds) = omega arith in
                carries_as (length (c.part ∷ S.bounds))
                (sol_as (λ σ. K σ × True σ b) (λ σ. K σ × AllTrue (b ∷ []) σ) refl (λ σ. (λ h. (h.0, (h.1, tt)), λ h. (h.0, h.1.0))))
                (sol_as (λ σ. K σ × AllTrue (c.defining ++ S.builtins) σ) (λ σ. K σ × AllTrue (c.defining ++ S.builtins) σ) refl (λ σ. (λ h. h, λ h. h)))
                (subst (λ (m : ℕ). Carries m (Sol Bs (λ σ. K σ × True σ b)) (Sol (Bs ++ c.part ∷ S.bounds) (λ σ. K σ × AllTrue (c.defining ++ S.builtins) σ))) long both);
          }

  -- ---- builtin by builtin

  pub split_all_well : (f : ℕ) (Bs : List Bounds) (bs : List Builtin) → All (Typed Bs) bs → SplitsWell Bs bs (split_all f Bs bs)
  unfolding split_all
  split_all_well f Bs [] t = left Bs [] tt
  split_all_well f Bs (b ∷ bs) t =
      let S = split f Bs b in
      let Ds = Bs ++ S.bounds in
      let R = split_all f Ds bs in
      let s = split_well f Bs b t.0 in
      let r = split_all_well f Ds bs (all_typed_more Bs S.bounds bs t.1) in
      let a : Ds ++ R.bounds ≡ Bs ++ (S.bounds ++ R.bounds) = append_assoc Bs S.bounds R.bounds in
      record {
        typed = subst (λ (Es : List Bounds). All (Typed Es) (S.builtins ++ R.builtins)) a
            ((all_append (Typed (Ds ++ R.bounds)) S.builtins R.builtins).1 (all_typed_more Ds R.bounds S.builtins s.typed, r.typed));
        carries = λ K k.
            let first = carries_as (length S.bounds)
            (sol_as (λ σ. (K σ × AllTrue bs σ) × AllTrue (b ∷ []) σ) (λ σ. K σ × AllTrue (b ∷ bs) σ) refl
            (λ σ. (λ h. (h.0.0, (h.1.0, h.0.1)), λ h. ((h.0, h.1.1), (h.1.0, tt)))))
            (sol_as (λ σ. (K σ × AllTrue bs σ) × AllTrue S.builtins σ) (λ σ. (K σ × AllTrue S.builtins σ) × AllTrue bs σ) refl
            (λ σ. (λ h. ((h.0.0, h.1), h.0.1), λ h. ((h.0.0, h.1), h.0.1))))
            (s.carries (λ σ. K σ × AllTrue bs σ) (reads-both k (reads-all Bs bs t.1))) in
            let second = carries_as (length R.bounds)
            (sol_as (λ σ. (K σ × AllTrue S.builtins σ) × AllTrue bs σ) (λ σ. (K σ × AllTrue S.builtins σ) × AllTrue bs σ) refl (λ σ. (λ h. h, λ h. h)))
            (sol_as (λ σ. (K σ × AllTrue S.builtins σ) × AllTrue R.builtins σ) (λ σ. K σ × AllTrue (S.builtins ++ R.builtins) σ) a
            (λ σ. let j = all_append (True σ) S.builtins R.builtins in (λ h. (h.0.0, j.1 (h.0.1, h.1)), λ h. ((h.0, (j.0 h.1).0), (j.0 h.1).1))))
            (r.carries (λ σ. K σ × AllTrue S.builtins σ) (reads-both (reads_more Bs S.bounds k) (reads-all Ds S.builtins s.typed))) in
            subst (λ (m : ℕ). Carries m (Sol Bs (λ σ. K σ × AllTrue (b ∷ bs) σ)) (Sol (Bs ++ (S.bounds ++ R.bounds)) (λ σ. K σ × AllTrue (S.builtins ++ R.builtins) σ)))
            (sym (length-append S.bounds R.bounds)) (carries_through (length S.bounds) (length R.bounds) first second);
      }

  -- ---- the whole: a system is carried over to its split one

  pub splits : (f : ℕ) (Bs : List Bounds) (bs : List Builtin) → All (Typed Bs) bs →
      let S = split_all f Bs bs in Carries (length S.bounds) (Solves (record { bounds = Bs; builtins = bs })) (Solves (record { bounds = Bs ++ S.bounds; builtins = S.builtins }))
  splits f Bs bs t =
      let S = split_all f Bs bs in
      carries_as (length S.bounds) (λ vs. solved Bs bs vs) (λ vs. solved (Bs ++ S.bounds) S.builtins vs) ((split_all_well f Bs bs t).carries (λ σ. Unit {0}) (λ σ τ e h. tt))
    where
      solved : (Cs : List Bounds) (cs : List Builtin) (vs : List ℤ) → Sol Cs (λ σ. Unit {0} × AllTrue cs σ) vs ↔ Solves (record { bounds = Cs; builtins = cs }) vs
      solved Cs cs vs =
          let s = satisfies Cs (meaning (value vs)) (True (value vs)) (λ b. (λ e. e, λ e. e)) cs vs in
          (λ h. s.1 (h.0, h.1, h.2.1), λ h. ((s.0 h).0, (s.0 h).1, (tt, (s.0 h).2)))
