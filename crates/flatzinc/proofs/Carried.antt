-- One carrying over after another; the same in other words.
use Rattle.std.proofs.Common.{◌≡◌, refl, sym, ap, ap₂, ◌∙◌, subst, ◌↔◌, List, [], ◌∷◌, ◌++◌, append_assoc, ℕ, ◌+◌, arith, ℤ, length, length-append, take, drop, length-drop}
use Rattle.std.proofs.lemmas.List.{take-append-drop, length-take-le}
use Rattle.flatzinc.specs.System.{Carries}

-- of other predicates that say the same
pub carries_as : (k : ℕ) {P Q R S : List ℤ → Type 0} → ((vs : List ℤ) → P vs ↔ R vs) → ((vs : List ℤ) → Q vs ↔ S vs) → Carries k P Q → Carries k R S
carries_as k p q c = record {
  same = λ vs. (
    λ r. let x = (c.same vs).0 ((p vs).1 r) in (x.0, (x.1.0, (q (vs ++ x.0)).0 x.1.1)),
    λ x. (p vs).0 ((c.same vs).1 (x.0, (x.1.0, (q (vs ++ x.0)).1 x.1.1))),
  );
  only = λ vs xs ys e f s t. c.only vs xs ys e f ((q (vs ++ xs)).1 s) ((q (vs ++ ys)).1 t);
}

-- no further value
pub carries_nothing : {P Q : List ℤ → Type 0} → ((vs : List ℤ) → P vs ↔ Q (vs ++ [])) → Carries 0 P Q
carries_nothing {P} {Q} p = record {
  same = λ vs. (λ r. ([], (refl, (p vs).0 r)), λ x. (p vs).1 (subst (λ zs. Q (vs ++ zs)) (none x.0 x.1.0) x.1.1));
  only = λ vs xs ys e f s t. none ys f ∙ sym (none xs e);
}
  where
    none : (xs : List ℤ) → length xs ≡ 0 → xs ≡ []
    none [] e = refl
    none (x ∷ xs) e = absurd (omega arith)

module _ (k m : ℕ) {P Q R : List ℤ → Type 0} (f : Carries k P Q) (g : Carries m Q R) where
  front : (zs : List ℤ) → length zs ≡ k + m → length (take k zs) ≡ k
  front zs e = length-take-le k zs (omega arith)

  behind : (zs : List ℤ) → length zs ≡ k + m → length (drop k zs) ≡ m
  behind zs e = let h = length-drop k zs in omega arith

  parted : (vs zs : List ℤ) → R (vs ++ zs) → R ((vs ++ take k zs) ++ drop k zs)
  parted vs zs r = subst R (sym (append_assoc vs (take k zs) (drop k zs) ∙ ap (λ l. vs ++ l) (take-append-drop k zs))) r

  halfway : (vs zs : List ℤ) → length zs ≡ k + m → R (vs ++ zs) → Q (vs ++ take k zs)
  halfway vs zs e r = (g.same (vs ++ take k zs)).1 (drop k zs, (behind zs e, parted vs zs r))

  both-there : (vs : List ℤ) → P vs → (zs : List ℤ) × ((length zs ≡ k + m) × R (vs ++ zs))
  both-there vs p =
      let a = (f.same vs).0 p in
      let b = (g.same (vs ++ a.0)).0 a.1.1 in
      (a.0 ++ b.0, (length-append a.0 b.0 ∙ ap₂ ◌+◌ a.1.0 b.1.0, subst R (append_assoc vs a.0 b.0) b.1.1))

  both-only : (vs xs ys : List ℤ) → length xs ≡ k + m → length ys ≡ k + m → R (vs ++ xs) → R (vs ++ ys) → ys ≡ xs
  both-only vs xs ys e h r s =
      let t : take k ys ≡ take k xs = f.only vs (take k xs) (take k ys) (front xs e) (front ys h) (halfway vs xs e r) (halfway vs ys h s) in
      let u : R ((vs ++ take k xs) ++ drop k ys) = subst (λ l. R ((vs ++ l) ++ drop k ys)) t (parted vs ys s) in
      let d : drop k ys ≡ drop k xs = g.only (vs ++ take k xs) (drop k xs) (drop k ys) (behind xs e) (behind ys h) (parted vs xs r) u in
      sym (take-append-drop k ys) ∙ ap₂ ◌++◌ t d ∙ take-append-drop k xs

  pub carries_through : Carries (k + m) P R
  carries_through = record {
    same = λ vs. (both-there vs, λ z. (f.same vs).1 (take k z.0, (front z.0 z.1.0, halfway vs z.0 z.1.0 z.1.1)));
    only = both-only;
  }
