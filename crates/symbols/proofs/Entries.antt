-- What the symbol table says stays right when a name is declared. For `enter` and `note`.
use Rattle.std.proofs.Common.{◌≡◌, refl, sym, ap, ◌∙◌, Bool, true, false, List, [], ◌∷◌, append-nil, ℕ, ◌+◌, ◌<◌, zero-add, arith, eqb, get_or-set_same, get_or-set_other, length, length-set, get_or, set, eqb-true, eq-eqb, ne_eqb}
use borrow.Author.Tests.{eqb-false}
use Rattle.integers.specs.Choice.{◌if◌else◌}
use Rattle.integers.proofs.Tests.{false-true}
use Rattle.tokens.specs.Unread.{bytes_between}
use Rattle.names.specs.Name.{same, look_up}
use Rattle.names.proofs.Names.{same_self, look_append}
use Rattle.symbols.specs.Entry.{named}
use Rattle.symbols.specs.Tree.{Names, Vacant, Grows, name_at}
use Rattle.symbols.specs.Symbol.{Table, declared_before, IsNew, Indexed, AddsName}
use Rattle.symbols.proofs.Walk.{same-equal}

-- ---- a table at one of two places with the same names before them is one at the other

pub same_index : {bs : List ℕ} {p q : ℕ} {s : Table} → declared_before bs q ≡ declared_before bs p → Indexed bs p s → Indexed bs q s
same_index {bs} {p} {q} {s} e x = record {
  tree = x.tree;
  size = x.size;
  right = λ i h. rw e (x.right i h);
  all = λ w y h. x.all w y (λ z. h (ap (look_up y 0) e ∙ z));
}

-- a name that is looked up is declared or not
pub zero_or : {A : Type 0} (n : ℕ) → (n ≡ 0 → A) → ((n ≡ 0 → ⊥) → A) → A
zero_or {A} n f g = go (eqb n 0) refl
  where
    go : (b : Bool) → eqb n 0 ≡ b → A
    go true q = f (eqb-true n 0 q)
    go false q = g (eqb-false n 0 q)

-- ---- what is found of a name

module _ {bs : List ℕ} {p : ℕ} {s : Table} (i : Indexed bs p s) {x : List ℕ} where
  pub found : {j : ℕ} → (j < s.tree.count) × (x ≡ name_at bs s.tree j) → look_up x 0 (declared_before bs p) ≡ get_or s.numbers j 0
  found {j} q = rw q.1 (i.right j q.0)

  pub not_found : {l : ℕ} → s.whole ≡ true → Vacant bs s.tree x l → look_up x 0 (declared_before bs p) ≡ 0
  not_found w n = zero_or (look_up x 0 (declared_before bs p)) (λ z. z) (λ z. absurd (i.all w x z n.none))

-- ---- the names after a token that follows no colon

pub none_new : {bs : List ℕ} {place stop : ℕ} {s : Table} → AddsName bs place stop false → Indexed bs place s → Indexed bs stop s
none_new {bs} {place} d = same_index (d.names ∙ append-nil (declared_before bs place))

-- ---- one name more

module _ {bs : List ℕ} {place stop : ℕ} (d : AddsName bs place stop true) where
  abbrev name : List ℕ
  name = bytes_between bs place stop

  abbrev before : List (List ℕ)
  before = declared_before bs place

  kept : (y : List ℕ) → (look_up y 0 before ≡ 0 → ⊥) → look_up y 0 (declared_before bs stop) ≡ look_up y 0 before
  kept y h = rw d.names (look_append y 0 before (name ∷ []) ∙ rw (ne_eqb (look_up y 0 before) 0 h))

  later : (y : List ℕ) → look_up y 0 before ≡ 0 → look_up y 0 (declared_before bs stop) ≡ (length before + 1 if same y name else 0)
  unfolding look_up
  later y z = rw d.names (look_append y 0 before (name ∷ []) ∙ rw (eq-eqb (look_up y 0 before) 0 z) (ap (λ (n : ℕ). n + 1 if same y name else 0) (zero-add (length before))))

  -- it is the only one that can be new
  new_name : (y : List ℕ) → look_up y 0 before ≡ 0 → (look_up y 0 (declared_before bs stop) ≡ 0 → ⊥) → y ≡ name
  new_name y z h = go (same y name) refl
    where
      go : (t : Bool) → same y name ≡ t → y ≡ name
      go true q = same-equal y name q
      go false q = absurd (h (later y z ∙ rw q))

  -- its number
  new_number : (y : List ℕ) → y ≡ name → look_up y 0 before ≡ 0 → look_up y 0 (declared_before bs stop) ≡ length before + 1
  new_number y e z = later y z ∙ (let q : same y name ≡ true = rw e (same_self name) in rw q)

  -- another one's, or that of a name that was declared before
  stays : (y : List ℕ) → (look_up y 0 before ≡ 0 → y ≡ name → ⊥) → look_up y 0 (declared_before bs stop) ≡ look_up y 0 before
  stays y h = zero_or (look_up y 0 before) (λ z. go z (same y name) refl) (kept y)
    where
      go : look_up y 0 before ≡ 0 → (t : Bool) → same y name ≡ t → look_up y 0 (declared_before bs stop) ≡ look_up y 0 before
      go z true q = absurd (h z (same-equal y name q))
      go z false q = later y z ∙ rw q (sym z)

  -- every name that is declared now was declared before or is this one
  has_all : (t : Names) {whole : Bool} → (whole ≡ true → (y : List ℕ) → (look_up y 0 before ≡ 0 → ⊥) → IsNew bs t y → ⊥) → (whole ≡ true → IsNew bs t name → ⊥)
      → whole ≡ true → (y : List ℕ) → (look_up y 0 (declared_before bs stop) ≡ 0 → ⊥) → IsNew bs t y → ⊥
  has_all t all here w y h n = zero_or (look_up y 0 before) (λ z. let e = new_name y z h in here w (rw e at n)) (λ z. all w y z n)

  module _ {s : Table} (i : Indexed bs place s) where
    -- the table has not the name, and is not whole
    pub absent : {l : ℕ} {new : Table} → Vacant bs s.tree name l → new.tree ≡ s.tree → new.numbers ≡ s.numbers → new.whole ≡ false → Indexed bs stop new
    absent {l} {new} n t m w = record {
      tree = rw t i.tree;
      size = rw (t, m) i.size;
      right = rw (t, m) (λ j h. stays (name_at bs s.tree j) (λ z e. n.none j h (sym e)) ∙ i.right j h);
      all = λ x. false-true (sym w ∙ x);
    }

    -- the table has the name, and it was declared before
    pub declared : (j : ℕ) → j < s.tree.count → name ≡ name_at bs s.tree j → (get_or s.numbers j 0 ≡ 0 → ⊥) → Indexed bs stop s
    declared j h e z = record {
      tree = i.tree;
      size = i.size;
      right = λ k f. stays (name_at bs s.tree k) (λ o q. z (sym (i.right j h) ∙ (let r : name_at bs s.tree j ≡ name_at bs s.tree k = sym e ∙ sym q in rw r o))) ∙ i.right k f;
      all = has_all s.tree i.all (λ w n. n j h e);
    }

    -- it has the name, and it is declared now
    pub numbered : (j : ℕ) → j < s.tree.count → name ≡ name_at bs s.tree j → get_or s.numbers j 0 ≡ 0 → Indexed bs stop (record s { numbers = set s.numbers j (length before + 1) })
    numbered j h e z = record {
      tree = i.tree;
      size = length-set s.numbers j (length before + 1) ∙ i.size;
      right = λ k f. go k f (eqb k j) refl;
      all = has_all s.tree i.all (λ w n. n j h e);
    }
      where
        go : (k : ℕ) → k < s.tree.count → (b : Bool) → eqb k j ≡ b → look_up (name_at bs s.tree k) 0 (declared_before bs stop) ≡ get_or (set s.numbers j (length before + 1)) k 0
        go k f true q =
            let room : j < length s.numbers = (let a = i.tree.few in let b = i.size in omega (arith, a, b, h)) in
            rw (eqb-true k j q, get_or-set_same s.numbers j (length before + 1) 0 room) (new_number (name_at bs s.tree j) (sym e) (i.right j h ∙ z))
        go k f false q =
            let o = eqb-false k j q in
            rw (get_or-set_other s.numbers j k (length before + 1) 0 o) (stays (name_at bs s.tree k) (λ z' r. o (i.tree.distinct k j f h (r ∙ e))) ∙ i.right k f)

    -- it has not the name, and takes it
    module _ (w : s.whole ≡ true) {l : ℕ} (n : Vacant bs s.tree name l) (r : s.tree.count < length s.tree.entries) {t : Names} (g : Grows bs s.tree t name) where
      undeclared : look_up name 0 before ≡ 0
      undeclared = zero_or (look_up name 0 before) (λ z. z) (λ z. absurd (i.all w name z n.none))

      same_name : (j : ℕ) → j < s.tree.count → name_at bs t j ≡ name_at bs s.tree j
      same_name j h = ap (named bs) (g.kept j h)

      pub taken_in : Indexed bs stop (record s { tree = t; numbers = set s.numbers s.tree.count (length before + 1) })
      taken_in = record {
        tree = g.tree;
        size = length-set s.numbers s.tree.count (length before + 1) ∙ i.size ∙ sym g.room;
        right = λ k f. go k f (eqb k s.tree.count) refl;
        all = has_all t (λ w y h m. i.all w y h (λ k f q. m k (let c = g.count in omega (arith, f, c)) (q ∙ sym (same_name k f))))
            (λ w m. m s.tree.count (let c = g.count in omega (arith, c)) (sym g.last));
      }
        where
          go : (k : ℕ) → k < t.count → (b : Bool) → eqb k s.tree.count ≡ b → look_up (name_at bs t k) 0 (declared_before bs stop) ≡ get_or (set s.numbers s.tree.count (length before + 1)) k 0
          go k f true q =
              let room : s.tree.count < length s.numbers = (let b = i.size in omega (arith, b, r)) in
              rw (eqb-true k s.tree.count q, get_or-set_same s.numbers s.tree.count (length before + 1) 0 room, g.last) (new_number name refl undeclared)
          go k f false q =
              let o = eqb-false k s.tree.count q in
              let h : k < s.tree.count = (let c = g.count in omega (arith, f, c, o)) in
              rw (get_or-set_other s.numbers s.tree.count k (length before + 1) 0 o, g.kept k h) (stays (name_at bs s.tree k) (λ z e. n.none k h (sym e)) ∙ i.right k h)
