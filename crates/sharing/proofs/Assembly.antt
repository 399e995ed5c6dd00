-- Block after block, the auxiliaries numbered on, each block handing the record of encoded variables to the next: the values satisfy all blocks'
-- rows exactly where they make every builtin true and the auxiliaries are the picks.
use Rattle.std.proofs.Common.{◌≡◌, refl, sym, ap, ap₂, ◌∙◌, subst, Bool, true, false, List, [], ◌∷◌, ◌++◌, map, append_assoc, ℕ, ◌+◌, ◌<◌, arith, ℤ, length, length-append}
use mathlib.Core.Path.{fun_ext}
use Rattle.integers.specs.Choice.{◌if◌else◌}
use Rattle.integers.specs.Terms.{Valuation, value}
use Rattle.integers.specs.declared.Bounds.{Bounds}
use Rattle.integers.proofs.Bits.{Bit}
use Rattle.integers.proofs.Lists.{all_append, all_both, all_implies}
use Rattle.integers.proofs.Tests.{In, All, Member, false-true}
use Rattle.models.specs.Builtin.{Builtin}
use Rattle.models.specs.Meaning.{meaning}
use Rattle.models.specs.Model.{Constraint, builtin}
use Rattle.models.proofs.Arguments.{integer_arguments, boolean_arguments}
use Rattle.rowsystems.specs.Row.{Row, rename}
use Rattle.rules.specs.Block.{numbered}
use Rattle.rules.specs.Rule.{rule}
use Rattle.rules.specs.Pick.{pick}
use Rattle.rules.specs.Shared.{Choice, choice, encodes, shares, Encoded, encoded_after, shared_rule, rule_after, shared_pick, pick_after}
use Rattle.rules.specs.Translation.{block_of, each_block}
use Rattle.sharing.proofs.Good.{Sat, Keeps, Are, Good}
use Rattle.sharing.proofs.Fits.{Fits}
use Rattle.sharing.proofs.Formed.{Formed}
use Rattle.sharing.proofs.Gates.{keeps-append, are-append, from-append}
use Rattle.sharing.proofs.OneHot.{From}
use Rattle.sharing.proofs.Encoding.{Held, held_after, Coded, coded-own}
use Rattle.sharing.proofs.Choices.{View, view, shared-sound, shared-determined, shared-complete, shared-coded, shared-filled, same-meaning, same-pick}
use Rattle.sharing.proofs.ChoicesFormed.{shares-any}
use Rattle.sharing.proofs.Numbering.{Agrees, rows_agree}
use Rattle.sharing.proofs.Codes.{laws}

-- ---- one builtin, whose block's auxiliaries are numbered from `first` on

module _ (β : ℕ → Bounds) (s : ℕ → Bool) (n first : ℕ) (e : Encoded) (ρ σ : Valuation) (same : (v : ℕ) → v < n → ρ v ≡ σ v) (held : Held β ρ e) {ch : Choice} {b : Builtin} (seen : View ch b)
    (ints : All (λ v. v < n) (integer_arguments b)) (bools : All (λ v. v < n) (boolean_arguments b)) (plain : Formed n (rule β b)) (fits : Fits β σ b) where
  -- the block's auxiliaries
  abbrev own : Valuation
  own k = ρ (first + k)

  fits_all : Fits β ρ b
  fits_all = record {
    kept = all_implies (λ v. In (β v) (σ v) × (v < n)) (λ v. In (β v) (ρ v)) (λ v h. subst (In (β v)) (sym (same v h.1)) h.0) (integer_arguments b) (all_both _ _ (integer_arguments b) fits.kept ints);
    zero_one = all_implies (λ v. Bit (σ v) × (v < n)) (λ v. Bit (ρ v)) (λ v h. subst Bit (sym (same v h.1)) h.0) (boolean_arguments b) (all_both _ _ (boolean_arguments b) fits.zero_one bools);
  }

  -- over σ where the block names only the model's variables, over ρ where it names earlier auxiliaries too
  agrees : Agrees n first ρ σ own
  agrees = record { before = same; after = λ k. refl }

  agrees-all : Agrees first first ρ ρ own
  agrees-all = record { before = λ v h. refl; after = λ k. refl }

  still-held : shares s ch ≡ false → Held β ρ (encoded_after s first e (encodes ch))
  still-held h = held_after β ρ s first e (encodes ch) held (λ t. false-true (sym h ∙ shares-any s ch t))

  now_held : ((x : ℕ) → Member x (encodes ch) → Coded β e x ρ own) → Held β ρ (encoded_after s first e (encodes ch))
  now_held c = held_after β ρ s first e (encodes ch) held (λ t x m z. coded-own β e x ρ own z (c x m))

  -- rows that are satisfied: the builtin is true, the auxiliaries are the picks, and the next record holds
  pub one_only : Formed first (rule_after β s e ch b) → Keeps (rule_after β s e ch b).auxiliaries own → All (Sat ρ) (map (rename (numbered first)) (rule_after β s e ch b).rows) →
      (meaning σ b ≡ true) × Are (pick_after β s e σ ch b) own × Held β ρ (encoded_after s first e (encodes ch))
  unfolding rule_after pick_after
  one_only = go (shares s ch) refl
    where
      go : (t : Bool) → shares s ch ≡ t → let B = shared_rule β e ch if t else rule β b in
          Formed first B → Keeps B.auxiliaries own → All (Sat ρ) (map (rename (numbered first)) B.rows) →
          (meaning σ b ≡ true) × Are (shared_pick β e σ ch if t else pick β σ b) own × Held β ρ (encoded_after s first e (encodes ch))
      go true h f k r =
          let B = shared_rule β e ch in
          let g : Good B ρ own = (k, (rows_agree agrees-all (length B.auxiliaries) B.rows f.1).0 r) in
          let m = shared-sound β e ρ own held s seen h fits_all g in (
            sym (same-meaning ρ σ n same s seen h ints bools) ∙ m.0,
            subst (λ xs. Are xs own) (same-pick ρ σ n same β e s seen h ints) (shared-determined β e ρ own held s seen h g),
            now_held m.1,
          )
      go false h f k r =
          let B = rule β b in
          let g : Good B σ own = (k, (rows_agree agrees (length B.auxiliaries) B.rows plain.1).0 r) in
          (((laws β b).correct σ).sound own fits g, ((laws β b).correct σ).determined own fits g, still-held h)

  -- a builtin that is true, the auxiliaries being the picks: the rows are satisfied, and the next record holds
  pub one-complete : Formed first (rule_after β s e ch b) → (rest : List ℤ) → own ≡ value (pick_after β s e σ ch b ++ rest) → meaning σ b ≡ true →
      Keeps (rule_after β s e ch b).auxiliaries own × All (Sat ρ) (map (rename (numbered first)) (rule_after β s e ch b).rows) × Held β ρ (encoded_after s first e (encodes ch))
  unfolding rule_after pick_after
  one-complete = go (shares s ch) refl
    where
      go : (t : Bool) → shares s ch ≡ t → let B = shared_rule β e ch if t else rule β b in
          Formed first B → (rest : List ℤ) → own ≡ value ((shared_pick β e σ ch if t else pick β σ b) ++ rest) → meaning σ b ≡ true →
          Keeps B.auxiliaries own × All (Sat ρ) (map (rename (numbered first)) B.rows) × Held β ρ (encoded_after s first e (encodes ch))
      go true h f rest p m =
          let B = shared_rule β e ch in
          let q : own ≡ value (shared_pick β e ρ ch ++ rest) = p ∙ ap (λ zs. value (zs ++ rest)) (sym (same-pick ρ σ n same β e s seen h ints)) in
          let g = subst (λ α. Good B ρ α × ((x : ℕ) → Member x (encodes ch) → Coded β e x ρ α)) (sym q)
          (shared-complete β e ρ held s seen h fits_all (same-meaning ρ σ n same s seen h ints bools ∙ m) rest) in
          (g.0.0, (rows_agree agrees-all (length B.auxiliaries) B.rows f.1).1 g.0.1, now_held g.1)
      go false h f rest p m =
          let B = rule β b in
          let g = subst (Good B σ) (sym p) (((laws β b).correct σ).complete fits m rest) in
          (g.0, (rows_agree agrees (length B.auxiliaries) B.rows plain.1).1 g.1, still-held h)

  -- the auxiliaries being the picks: the next record holds, whether the builtin is true or not
  pub one-held : (rest : List ℤ) → own ≡ value (pick_after β s e σ ch b ++ rest) → Held β ρ (encoded_after s first e (encodes ch))
  unfolding pick_after
  one-held = go (shares s ch) refl
    where
      go : (t : Bool) → shares s ch ≡ t → (rest : List ℤ) → own ≡ value ((shared_pick β e σ ch if t else pick β σ b) ++ rest) →
          Held β ρ (encoded_after s first e (encodes ch))
      go true h rest p =
          let q : own ≡ value (shared_pick β e ρ ch ++ rest) = p ∙ ap (λ zs. value (zs ++ rest)) (sym (same-pick ρ σ n same β e s seen h ints)) in
          now_held (λ x m. subst (Coded β e x ρ) (sym q) (shared-coded β e ρ held s seen h fits_all rest x m))
      go false h rest p = still-held h

-- a pick for each auxiliary
pub picked : (β : ℕ → Bounds) (s : ℕ → Bool) (e : Encoded) (σ : Valuation) (ch : Choice) (b : Builtin) → length (pick_after β s e σ ch b) ≡ length (rule_after β s e ch b).auxiliaries
unfolding rule_after pick_after
picked β s e σ ch b = go (shares s ch)
  where
    go : (t : Bool) → length (shared_pick β e σ ch if t else pick β σ b) ≡ length (shared_rule β e ch if t else rule β b).auxiliaries
    go true = shared-filled β e σ ch
    go false = ((laws β b).correct σ).filled

-- ---- all builtins

-- every builtin is true
abbrev pub AllTrue : Valuation → List Constraint → Type 0
AllTrue σ cs = All (λ c. meaning σ (builtin c) ≡ true) cs

abbrev pub AllFit : (ℕ → Bounds) → Valuation → List Constraint → Type 0
AllFit β σ cs = All (λ c. Fits β σ (builtin c)) cs

-- the n variables of a model are declared, and 01's own block is well formed over them
abbrev pub Plain : (ℕ → Bounds) → ℕ → Constraint → Type 0
Plain β n c = All (λ v. v < n) (integer_arguments (builtin c)) × All (λ v. v < n) (boolean_arguments (builtin c)) × Formed n (rule β (builtin c))

-- ---- block after block

module _ (β : ℕ → Bounds) (s : ℕ → Bool) where
  abbrev size : Encoded → Constraint → ℕ
  size e c = length (block_of β s e c).auxiliaries

  abbrev pub after : ℕ → Encoded → Constraint → Encoded
  after first e c = encoded_after s first e (encodes (choice c))

  -- all auxiliaries; all rows, their auxiliaries numbered from `first` on; all picks
  abbrev pub auxiliaries_from : ℕ → Encoded → List Constraint → List Bounds
  auxiliaries_from first e cs = each_block β s (λ first e c. (block_of β s e c).auxiliaries) first e cs

  abbrev pub rows_from : ℕ → Encoded → List Constraint → List (Row ℕ)
  rows_from first e cs = each_block β s (λ first e c. map (rename (numbered first)) (block_of β s e c).rows) first e cs

  abbrev pub picks_from : Valuation → ℕ → Encoded → List Constraint → List ℤ
  picks_from σ first e cs = each_block β s (λ first e c. pick_after β s e σ (choice c) (builtin c)) first e cs

  -- every block is well formed over what stands before it
  abbrev pub AllFormed : ℕ → Encoded → List Constraint → Type 0
  AllFormed first e [] = Unit {0}
  AllFormed first e (c ∷ cs) = Formed first (block_of β s e c) × AllFormed (first + size e c) (after first e c) cs

  -- values that are all picks: the first block's, then those of the others
  pub picks-split : (σ ρ : Valuation) (first : ℕ) (e : Encoded) (c : Constraint) (cs : List Constraint) (rest : List ℤ) →
      From first ρ (value (picks_from σ first e (c ∷ cs) ++ rest)) →
      let more = picks_from σ (first + size e c) (after first e c) cs ++ rest in
      ◌≡◌ {A = Valuation} (λ k. ρ (first + k)) (value (pick_after β s e σ (choice c) (builtin c) ++ more)) × From (first + size e c) ρ (value more)
  unfolding each_block block_of
  picks-split σ ρ first e c cs rest a =
      let l = size e c in
      let mine = pick_after β s e σ (choice c) (builtin c) in
      let later = picks_from σ (first + l) (after first e c) cs in
      let b : From first ρ (value (mine ++ (later ++ rest))) = λ j. a j ∙ ap (λ zs. value zs j) (append_assoc mine later rest) in
      let on : (j : ℕ) → ρ (first + l + j) ≡ ρ (first + (l + j)) = λ j. let q : first + l + j ≡ first + (l + j) = omega arith in ap ρ q in
      (fun_ext b, λ j. on j ∙ b (l + j) ∙ from-append mine (later ++ rest) l (picked β s e σ (choice c) (builtin c)) j)

  module _ (n : ℕ) (ρ σ : Valuation) (same : (v : ℕ) → v < n → ρ v ≡ σ v) where
    pub rows-only : (first : ℕ) (e : Encoded) (cs : List Constraint) → All (Plain β n) cs → AllFormed first e cs → AllFit β σ cs → Held β ρ e →
        Keeps (auxiliaries_from first e cs) (λ k. ρ (first + k)) → All (Sat ρ) (rows_from first e cs) →
        AllTrue σ cs × Are (picks_from σ first e cs) (λ k. ρ (first + k))
    unfolding each_block block_of
    rows-only first e [] p f t h k r = (tt, tt)
    rows-only first e (c ∷ cs) p f t h k r =
        let B = block_of β s e c in
        let m = size e c in
        let next = after first e c in
        let on : (j : ℕ) → ρ (first + (m + j)) ≡ ρ (first + m + j) = λ j. let q : first + (m + j) ≡ first + m + j = omega arith in ap ρ q in
        let ks = (keeps-append B.auxiliaries (auxiliaries_from (first + m) next cs) (λ k. ρ (first + k)) (λ k. ρ (first + m + k)) on).0 k in
        let rs = (all_append (Sat ρ) (map (rename (numbered first)) B.rows) (rows_from (first + m) next cs)).0 r in
        let o = one_only β s n first e ρ σ same h (view c) p.0.0 p.0.1 p.0.2 t.0 f.0 ks.0 rs.0 in
        let later = rows-only (first + m) next cs p.1 f.1 t.1 o.2 ks.1 rs.1 in
        let mine = pick_after β s e σ (choice c) (builtin c) in
        let past : From (length mine) (λ k. ρ (first + k)) (λ k. ρ (first + m + k)) = λ j. ap (λ l. ρ (first + (l + j))) (picked β s e σ (choice c) (builtin c)) ∙ on j in
        ((o.0, later.0), (are-append mine (picks_from σ (first + m) next cs) (λ k. ρ (first + k)) (λ k. ρ (first + m + k)) past).1 (o.1, later.1))

    pub rows-complete : (first : ℕ) (e : Encoded) (cs : List Constraint) → All (Plain β n) cs → AllFormed first e cs → AllFit β σ cs → Held β ρ e → (rest : List ℤ) →
        From first ρ (value (picks_from σ first e cs ++ rest)) → AllTrue σ cs →
        Keeps (auxiliaries_from first e cs) (λ k. ρ (first + k)) × All (Sat ρ) (rows_from first e cs)
    unfolding each_block block_of
    rows-complete first e [] p f t h rest a m = (tt, tt)
    rows-complete first e (c ∷ cs) p f t h rest a m =
        let B = block_of β s e c in
        let l = size e c in
        let next = after first e c in
        let more = picks_from σ (first + l) next cs ++ rest in
        let q = picks-split σ ρ first e c cs rest a in
        let o = one-complete β s n first e ρ σ same h (view c) p.0.0 p.0.1 p.0.2 t.0 f.0 more q.0 m.0 in
        let on : (j : ℕ) → ρ (first + l + j) ≡ ρ (first + (l + j)) = λ j. let q : first + l + j ≡ first + (l + j) = omega arith in ap ρ q in
        let r = rows-complete (first + l) next cs p.1 f.1 t.1 o.2 rest q.1 m.1 in (
          (keeps-append B.auxiliaries (auxiliaries_from (first + l) next cs) (λ k. ρ (first + k)) (λ k. ρ (first + l + k)) (λ j. sym (on j))).1 (o.0, r.0),
          (all_append (Sat ρ) (map (rename (numbered first)) B.rows) (rows_from (first + l) next cs)).1 (o.1, r.1),
        )

  pub picks-length : (σ : Valuation) (first : ℕ) (e : Encoded) (cs : List Constraint) → length (picks_from σ first e cs) ≡ length (auxiliaries_from first e cs)
  unfolding each_block block_of
  picks-length σ first e [] = refl
  picks-length σ first e (c ∷ cs) =
      let n = first + size e c in
      length-append (pick_after β s e σ (choice c) (builtin c)) (picks_from σ n (after first e c) cs)
      ∙ ap₂ ◌+◌ (picked β s e σ (choice c) (builtin c)) (picks-length σ n (after first e c) cs)
      ∙ sym (length-append (block_of β s e c).auxiliaries (auxiliaries_from n (after first e c) cs))
