-- A builtin is cut as its list is; more cuts than it needs change nothing.
use Rattle.std.proofs.Common.{◌≡◌, refl, sym, ap, ◌∙◌, Bool, true, false, List, [], ◌∷◌, ◌++◌, append_assoc, append-nil, ℕ, zero, suc, ◌<◌, ◌≤◌, arith, ltb, ltb-true, ltb-false, le-ltb, lt-ltb, length, length-append, length-drop, take, drop, Option, Some, None}
use Rattle.integers.specs.declared.Bounds.{Bounds}
use Rattle.models.specs.Builtin.{Builtin}
use Rattle.flatzinc.specs.System.{System}
use Rattle.flatsplitting.specs.Split.{Cut, cut, with_cut, split, cut_size}
use Rattle.flatsplitting.specs.Pieces.{Cutting, Pieces, pieces, cut_up}
use Rattle.flatsplitting.proofs.Enough.{Uncut, short-uncut, cuts-down}

pub by_length : (n m : ℕ) {G : Type 0} → (n ≤ m → G) → (m < n → G) → G
by_length n m {G} p q = go (ltb m n) refl
  where
    go : (t : Bool) → ltb m n ≡ t → G
    go true e = q (ltb-true m n e)
    go false e = p (ltb-false m n e)

-- ---- more cuts than a builtin has elements

pub uncut-stays : (f : ℕ) (Bs : List Bounds) (b : Builtin) → Uncut b → split f Bs b ≡ record { bounds = []; builtins = b ∷ [] }
unfolding split with_cut
uncut-stays zero Bs b u = refl
uncut-stays (suc f) Bs b u = ap (with_cut (split f) Bs b) (u Bs)

pub more : (f g : ℕ) (Bs : List Bounds) (b : Builtin) → cut_size b ≤ f → cut_size b ≤ g → split f Bs b ≡ split g Bs b
unfolding split with_cut
more zero g Bs b l m = sym (uncut-stays g Bs b (short-uncut b (omega arith)))
more (suc f) zero Bs b l m = uncut-stays (suc f) Bs b (short-uncut b (omega arith))
more (suc f) (suc g) Bs b l m = go (λ Ds d k j. more f g Ds d k j) (cut Bs b) refl
  where
    go : ((Ds : List Bounds) (d : Builtin) → cut_size d ≤ f → cut_size d ≤ g → split f Ds d ≡ split g Ds d) → (o : Option Cut) → cut Bs b ≡ o → with_cut (split f) Bs b o ≡ with_cut (split g) Bs b o
    go again None e = refl
    go again (Some c) e =
        let d = cuts-down Bs b c e in
        ap (λ (S : System). record { bounds = c.part ∷ S.bounds; builtins = c.defining ++ S.builtins })
        (again (Bs ++ c.part ∷ []) c.rest (let h = d.less in omega arith) (let h = d.less in omega arith))

-- ---- a list that is cut

module _ {A : Type 0} (C : Cutting A) where
  abbrev whole : List A → Pieces A
  whole xs = record { bounds = []; builtins = []; rest = xs }

  -- of a part and of what is cut after it
  abbrev after_part : List Bounds → List A → Pieces A → Pieces A
  after_part Bs xs p =
      let first = take C.at xs in record { bounds = C.part Bs first ∷ p.bounds; builtins = C.defining (length Bs) first ++ p.builtins; rest = p.rest }

  abbrev with_part : List Bounds → List A → List Bounds
  with_part Bs xs = Bs ++ C.part Bs (take C.at xs) ∷ []

  abbrev left_over : List Bounds → List A → List A
  left_over Bs xs = drop C.at xs ++ C.named (length Bs) ∷ []

  -- a short list is not cut
  stays : (f : ℕ) (Bs : List Bounds) (xs : List A) → length xs ≤ 32 → pieces C f Bs xs ≡ whole xs
  unfolding pieces
  stays zero Bs xs h = refl
  stays (suc f) Bs xs h = rw (le-ltb 32 (length xs) h) refl

  -- a long one is
  is_cut : (f : ℕ) (Bs : List Bounds) (xs : List A) → 32 < length xs → pieces C (suc f) Bs xs ≡ after_part Bs xs (pieces C f (with_part Bs xs) (left_over Bs xs))
  unfolding pieces
  is_cut f Bs xs h = rw (lt-ltb 32 (length xs) h) refl

  module _ (two : 1 < C.at) (few : C.at ≤ 32) where
    left_over-size : (Bs : List Bounds) (xs : List A) → 32 < length xs → length (left_over Bs xs) < length xs
    left_over-size Bs xs h =
        let a = length-append (drop C.at xs) (C.named (length Bs) ∷ []) in let d = length-drop C.at xs in omega arith

    -- more cuts than it has elements change nothing
    more_pieces : (f g : ℕ) (Bs : List Bounds) (xs : List A) → length xs ≤ f → length xs ≤ g → pieces C f Bs xs ≡ pieces C g Bs xs
    more_pieces zero g Bs xs h k = stays zero Bs xs (omega arith) ∙ sym (stays g Bs xs (omega arith))
    more_pieces (suc f) zero Bs xs h k = stays (suc f) Bs xs (omega arith) ∙ sym (stays zero Bs xs (omega arith))
    more_pieces (suc f) (suc g) Bs xs h k =
        by_length (length xs) 32 (λ l. stays (suc f) Bs xs l ∙ sym (stays (suc g) Bs xs l))
        (λ l.
        let s = left_over-size Bs xs l in
        is_cut f Bs xs l ∙ ap (after_part Bs xs) (more_pieces f g (with_part Bs xs) (left_over Bs xs) (omega arith) (omega arith)) ∙ sym (is_cut g Bs xs l))

    -- a list is cut once and then what is left of it
    pub next : (Bs : List Bounds) (xs : List A) → 32 < length xs → cut_up C Bs xs ≡ after_part Bs xs (cut_up C (with_part Bs xs) (left_over Bs xs))
    next Bs xs h = go (length xs) refl
      where
        go : (n : ℕ) → length xs ≡ n → pieces C n Bs xs ≡ after_part Bs xs (cut_up C (with_part Bs xs) (left_over Bs xs))
        go zero e = absurd (omega arith)
        go (suc f) e =
            let s = left_over-size Bs xs h in
            is_cut f Bs xs h ∙ ap (after_part Bs xs) (more_pieces f (length (left_over Bs xs)) (with_part Bs xs) (left_over Bs xs) (omega arith) (omega arith))

    pub last : (Bs : List Bounds) (xs : List A) → length xs ≤ 32 → cut_up C Bs xs ≡ whole xs
    last Bs xs h = stays (length xs) Bs xs h

    -- what is left of a list is short
    pub short : (f : ℕ) (Bs : List Bounds) (xs : List A) → length xs ≤ f → length (pieces C f Bs xs).rest ≤ 32
    short zero Bs xs h = rw (stays zero Bs xs (omega arith)) (omega arith)
    short (suc f) Bs xs h =
        by_length (length xs) 32 (λ l. rw (stays (suc f) Bs xs l) l)
        (λ l. let s = left_over-size Bs xs l in rw (is_cut f Bs xs l) (short f (with_part Bs xs) (left_over Bs xs) (omega arith)))

    -- ---- a builtin of the list is cut as the list is, and then further

    module _ (make : List A → Builtin)
        (cuts : (Bs : List Bounds) (xs : List A) → 32 < length xs → cut Bs (make xs) ≡ Some (record { part = C.part Bs (take C.at xs); defining = C.defining (length Bs) (take C.at xs); rest = make (left_over Bs xs) })) where
      abbrev then : Pieces A → System → System
      then p S = record { bounds = p.bounds ++ S.bounds; builtins = p.builtins ++ S.builtins }

      -- what stands before the cuts that are left
      abbrev onward : ℕ → List Bounds → Pieces A → System
      onward g Bs p = then p (split g (Bs ++ p.bounds) (make p.rest))

      whole_case : (f g : ℕ) (Bs : List Bounds) (xs : List A) → length xs ≤ 32 → split g Bs (make xs) ≡ onward g Bs (pieces C f Bs xs)
      whole_case f g Bs xs l = rw (stays f Bs xs l, append-nil Bs) refl

      cut_case : (g : ℕ) (Bs : List Bounds) (xs : List A) (p : Pieces A) → 32 < length xs → cut_size (make xs) ≤ g →
          (cut_size (make (left_over Bs xs)) ≤ g → split g (with_part Bs xs) (make (left_over Bs xs)) ≡ onward g (with_part Bs xs) p) →
          split g Bs (make xs) ≡ onward g Bs (after_part Bs xs p)
      unfolding split with_cut
      cut_case g Bs xs p l k again =
          let first = take C.at xs in
          let B = C.part Bs first in
          let c : Cut = record { part = B; defining = C.defining (length Bs) first; rest = make (left_over Bs xs) } in
          let d = cuts-down Bs (make xs) c (cuts Bs xs l) in
          let S = split g (Bs ++ (B ∷ p.bounds)) (make p.rest) in
          more g (suc g) Bs (make xs) k (omega arith) ∙ ap (with_cut (split g) Bs (make xs)) (cuts Bs xs l)
          ∙ ap (λ (T : System). record { bounds = B ∷ T.bounds; builtins = C.defining (length Bs) first ++ T.builtins }) (again (let m = d.less in omega arith))
          ∙ ap (λ (Ds : List Bounds). let T = split g Ds (make p.rest) in
          record { bounds = B ∷ (p.bounds ++ T.bounds); builtins = C.defining (length Bs) first ++ (p.builtins ++ T.builtins) }) (append_assoc Bs (B ∷ []) p.bounds)
          ∙ ap (λ (bs : List Builtin). record { bounds = B ∷ (p.bounds ++ S.bounds); builtins = bs }) (sym (append_assoc (C.defining (length Bs) first) p.builtins S.builtins))

      pub first_cut : (f g : ℕ) (Bs : List Bounds) (xs : List A) → length xs ≤ f → cut_size (make xs) ≤ g → split g Bs (make xs) ≡ onward g Bs (pieces C f Bs xs)
      first_cut zero g Bs xs h k = whole_case zero g Bs xs (omega arith)
      first_cut (suc f) g Bs xs h k =
          by_length (length xs) 32 (whole_case (suc f) g Bs xs)
          (λ l.
          let s = left_over-size Bs xs l in
          cut_case g Bs xs (pieces C f (with_part Bs xs) (left_over Bs xs)) l k (λ j. first_cut f g (with_part Bs xs) (left_over Bs xs) (omega arith) j)
          ∙ ap (onward g Bs) (sym (is_cut f Bs xs l)))

      -- where it is then cut no further
      pub only_cut : ((ys : List A) → length ys ≤ 32 → Uncut (make ys)) → (g : ℕ) (Bs : List Bounds) (xs : List A) → cut_size (make xs) ≤ g →
          split g Bs (make xs) ≡ (let p = cut_up C Bs xs in record { bounds = p.bounds; builtins = p.builtins ++ make p.rest ∷ [] })
      only_cut u g Bs xs k =
          let p = cut_up C Bs xs in
          first_cut (length xs) g Bs xs (omega arith) k
          ∙ ap (then p) (uncut-stays g (Bs ++ p.bounds) (make p.rest) (u p.rest (short (length xs) Bs xs (omega arith))))
          ∙ ap (λ (Ds : List Bounds). record { bounds = Ds; builtins = p.builtins ++ make p.rest ∷ [] }) (append-nil p.bounds)
