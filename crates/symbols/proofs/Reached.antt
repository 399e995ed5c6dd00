-- The names declared up to the place that a reader has reached, from token to token. For `read_tokens`.
use Rattle.std.proofs.Common.{◌≡◌, refl, sym, ap, ◌∙◌, Bool, true, false, List, [], ◌∷◌, ◌++◌, append-nil, append_assoc, ℕ, zero, suc, ◌+◌, ◌-◌, ◌<◌, ◌≤◌, add-zero, arith, eqb, length, take, drop, length-append, lt-ltb, le-ltb}
use Rattle.integers.specs.Choice.{◌if◌else◌}
use Rattle.integers.proofs.Tests.{false-true}
use Rattle.tokens.specs.Byte.{is_gap}
use Rattle.tokens.specs.Token.{tokens_from, token_length, sort_of}
use Rattle.tokens.specs.Unread.{bytes_between, unread, spanned, Met}
use Rattle.tokens.specs.declared.Span.{Span}
use Rattle.tokens.specs.Sorts.{sort_number}
use Rattle.names.specs.Name.{look_up, declared_from}
use Rattle.symbols.proofs.Entries.{same_index}
use Rattle.symbols.specs.Tree.{IsTree}
use Rattle.symbols.specs.Symbol.{Table, declared_before, AddsName, Indexed, Cleared, Latest, Reached, Tabled}

-- no token from a place on stands before it
none_before : (c : Bool) (p q left : ℕ) (l : List ℕ) → p ≤ q → declared_from c p (tokens_from left q l) ≡ []
unfolding declared_from tokens_from
none_before c p q left [] h = refl
none_before c p q (suc left) (b ∷ bs) h = none_before c p (q + 1) left bs (omega arith)
none_before c p q zero (b ∷ bs) h = go (is_gap b) (none_before c p (q + 1) (token_length b bs - 1) bs (omega arith))
  where
    go : (gap : Bool) → declared_from c p (tokens_from (token_length b bs - 1) (q + 1) bs) ≡ []
        → declared_from c p (tokens_from (token_length b bs - 1) (q + 1) bs if gap else record { sort = sort_of b bs; place = q; spelling = take (token_length b bs) (b ∷ bs) } ∷ tokens_from (token_length b bs - 1) (q + 1) bs) ≡ []
    go true e = e
    go false e = rw (le-ltb q p h)

none_here : (c : Bool) (bs : List ℕ) (p : ℕ) → declared_from c p (unread bs p) ≡ []
unfolding unread
none_here c bs p = none_before c p p 0 (drop p bs) (omega arith)

pub begin : (bs : List ℕ) → Reached bs 0 0 false
unfolding declared_before
begin bs = record { count = rw (none_here false bs 0); few = omega arith; on = λ p h. rw (none_here false bs 0) }

one_more : (c : Bool) (xs ys : List (List ℕ)) (y : List ℕ) → xs ++ (y ∷ ys if c else ys) ≡ (xs ++ (y ∷ [] if c else [])) ++ ys
one_more true xs ys y = sym (append_assoc xs (y ∷ []) ys)
one_more false xs ys y = ap (λ (l : List (List ℕ)). l ++ ys) (sym (append-nil xs))

many : (c : Bool) (k : ℕ) (y : List ℕ) → k + length (y ∷ [] if c else []) ≡ (k + 1 if c else k)
many true k y = refl
many false k y = add-zero k

module _ {bs : List ℕ} {i k : ℕ} {colon : Bool} (r : Reached bs i k colon) {t : Span} (m : Met bs i t) where
  abbrev name : List ℕ
  name = bytes_between bs t.place t.stop

  -- the names declared before the token
  none : declared_from colon t.place (unread bs i) ≡ []
  unfolding declared_from spanned
  none = rw (m.found, le-ltb t.place t.place (omega arith))

  pub at-token : declared_before bs t.place ≡ declared_before bs i
  at-token = r.on t.place m.onward ∙ ap (λ (l : List (List ℕ)). declared_before bs i ++ l) none ∙ append-nil (declared_before bs i)

  past : (p : ℕ) → t.place < p → declared_from colon p (unread bs i) ≡ (name ∷ declared_from (eqb (sort_number t.sort) 58) p (unread bs t.stop) if colon else declared_from (eqb (sort_number t.sort) 58) p (unread bs t.stop))
  unfolding declared_from spanned
  past p h = rw (m.found, lt-ltb t.place p h)

  all_past : (p : ℕ) → t.place < p → declared_before bs p ≡ (declared_before bs t.place ++ (name ∷ [] if colon else [])) ++ declared_from (eqb (sort_number t.sort) 58) p (unread bs t.stop)
  all_past p h =
      r.on p (omega (arith, m.onward, h)) ∙ ap (λ (l : List (List ℕ)). declared_before bs i ++ l) (past p h) ∙ ap (λ (l : List (List ℕ)). l ++ (name ∷ declared_from (eqb (sort_number t.sort) 58) p (unread bs t.stop) if colon else declared_from (eqb (sort_number t.sort) 58) p (unread bs t.stop))) (sym at-token)
      ∙ one_more colon (declared_before bs t.place) (declared_from (eqb (sort_number t.sort) 58) p (unread bs t.stop)) name

  -- no name is declared between the places
  pub latest-here : {last : ℕ} → Latest bs i last → Latest bs t.place last
  latest-here l = record { before = omega (arith, l.before, m.onward); same = at-token ∙ l.same }

  pub declares : AddsName bs t.place t.stop colon
  declares = record { names = all_past t.stop (m.longer) ∙ ap (λ (l : List (List ℕ)). (declared_before bs t.place ++ (name ∷ [] if colon else [])) ++ l) (none_here (eqb (sort_number t.sort) 58) bs t.stop) ∙ append-nil (declared_before bs t.place ++ (name ∷ [] if colon else [])) }

  -- those declared before a place inside the token
  pub same-names : (p : ℕ) → t.place < p → p ≤ t.stop → declared_before bs p ≡ declared_before bs t.stop
  unfolding unread
  same-names p h l =
      all_past p h ∙ ap (λ (l : List (List ℕ)). (declared_before bs t.place ++ (name ∷ [] if colon else [])) ++ l) (none_before (eqb (sort_number t.sort) 58) p t.stop 0 (drop t.stop bs) l)
      ∙ append-nil (declared_before bs t.place ++ (name ∷ [] if colon else [])) ∙ sym declares.names

  fewer : (c : Bool) → (k + 1 if c else k) ≤ t.stop
  fewer true = omega (arith, r.few, m.onward, m.longer)
  fewer false = omega (arith, r.few, m.onward, m.longer)

  pub next : Reached bs t.stop (k + 1 if colon else k) (eqb (sort_number t.sort) 58)
  next = record {
    count = ap length declares.names ∙ length-append (declared_before bs t.place) (name ∷ [] if colon else []) ∙ ap (λ (l : List (List ℕ)). length l + length (name ∷ [] if colon else [])) at-token ∙ ap (λ (n : ℕ). n + length (name ∷ [] if colon else [])) r.count ∙ many colon k name;
    few = fewer colon;
    on = λ p h. all_past p (omega (arith, h, m.longer)) ∙ ap (λ (l : List (List ℕ)). l ++ declared_from (eqb (sort_number t.sort) 58) p (unread bs t.stop)) (sym declares.names);
  }

pub latest-next : {bs : List ℕ} {place stop last new : ℕ} (colon : Bool) → place ≤ stop → AddsName bs place stop colon → Latest bs place last → new ≡ (stop if colon else last) → Latest bs stop new
latest-next true h d l e = rw e (record { before = omega arith; same = refl })
latest-next {place = place} false h d l e = rw e (record { before = omega (arith, h, l.before); same = d.names ∙ append-nil (declared_before _ place) ∙ l.same })

-- a table whose names have no number, before the first token
pub nothing_declared : (bs : List ℕ) → declared_before bs 0 ≡ []
unfolding declared_before
nothing_declared bs = none_here false bs 0

pub cleared_index : {bs : List ℕ} {s : Table} → Cleared bs s → Indexed bs 0 s
unfolding look_up
cleared_index {bs} {s} c = record {
  tree = c.tree;
  size = c.size;
  right = λ i h. rw (nothing_declared bs, c.none i);
  all = λ w. absurd (false-true (sym c.lost ∙ w));
}

pub empty_index : {s : Table} → ((bs : List ℕ) → IsTree bs s.tree) → s.tree.count ≡ 0 → length s.numbers ≡ length s.tree.entries → (bs : List ℕ) → Indexed bs 0 s
unfolding look_up
empty_index {s} t c l bs = record {
  tree = t bs;
  size = l;
  right = λ i h. absurd (omega (arith, c, h));
  all = λ w x h. absurd (h (rw (nothing_declared bs)));
}

-- ---- the names declared up to a place, and the table that has them

module _ {bs : List ℕ} {i k : ℕ} {colon : Bool} {s : Table} (b : Tabled bs i k colon s) where
  module _ {t : Span} (m : Met bs i t) where
    pub index-here : Indexed bs t.place s
    index-here = same_index (at-token b.reached m) b.index

    pub count-here : length (declared_before bs t.place) ≡ k
    count-here = ap length (at-token b.reached m) ∙ b.reached.count

    pub next-table : {new : Table} {n : ℕ} → n ≡ (k + 1 if colon else k) → Indexed bs t.stop new → Tabled bs t.stop n (eqb (sort_number t.sort) 58) new
    next-table e x = record { reached = rw e (next b.reached m); index = x }

    -- at a place up to which no other token begins
    pub index-before : (p : ℕ) → i ≤ p → p ≤ t.place → Indexed bs p s
    unfolding declared_from spanned
    index-before p l h = same_index (b.reached.on p l ∙ (let e : declared_from colon p (unread bs i) ≡ [] = rw (m.found, le-ltb t.place p h) in rw e (append-nil (declared_before bs i)))) b.index

  -- the table at a place after the last token
  pub index-end : (p : ℕ) → i ≤ p → unread bs i ≡ [] → Indexed bs p s
  unfolding declared_from
  index-end p l q = same_index (b.reached.on p l ∙ rw q (append-nil (declared_before bs i))) b.index
