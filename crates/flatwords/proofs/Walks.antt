-- Lists that are written element by element: one step, and the end.
use Rattle.std.proofs.Common.{◌≡◌, sym, ap, ◌∙◌, List, [], ◌∷◌, ◌++◌, append_assoc, append-nil, ℕ, ◌+◌, ◌<◌, ◌≤◌, length, get_or, drop}
use Rattle.std.proofs.lemmas.List.{at_drop_more, at_drop_all}

module _ {A : Type 0} (f : A → List ℕ) (fs : List A → List ℕ) (empty : fs [] ≡ []) (one_more : (x : A) (xs : List A) → fs (x ∷ xs) ≡ f x ++ fs xs) where
  pub step : (xs : List A) (i : ℕ) (x : A) (before after whole : List ℕ) → i < length xs → x ≡ get_or xs i x → before ++ fs (drop i xs) ≡ whole → after ≡ before ++ f x →
      after ++ fs (drop (i + 1) xs) ≡ whole
  step xs i x before after whole l at h e =
      let rest : fs (drop i xs) ≡ f x ++ fs (drop (i + 1) xs) =
      at_drop_more fs xs i x l ∙ ap (λ y. fs (y ∷ drop (i + 1) xs)) (sym at) ∙ one_more x (drop (i + 1) xs) in
      ap (λ l. l ++ fs (drop (i + 1) xs)) e ∙ append_assoc before (f x) (fs (drop (i + 1) xs)) ∙ ap (λ l. before ++ l) (sym rest) ∙ h

  pub end : (xs : List A) (i : ℕ) (out whole : List ℕ) → length xs ≤ i → out ++ fs (drop i xs) ≡ whole → out ≡ whole
  end xs i out whole l h = sym (append-nil out) ∙ ap (λ l. out ++ l) (sym (at_drop_all fs xs i l ∙ empty)) ∙ h
