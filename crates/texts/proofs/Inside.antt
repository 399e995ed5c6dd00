-- The inside of brackets, token by token. For `read_list`.
use Rattle.std.proofs.Common.{◌≡◌, refl, sym, ap, ◌∙◌, Bool, true, false, List, [], ◌∷◌, ◌++◌, append-nil, ℕ, ◌+◌, ◌<◌, ◌≤◌, arith, add-zero, eqb, eqb-true, eq-eqb, length, length-append}
use Rattle.integers.specs.Choice.{◌if◌else◌}
use Rattle.integers.proofs.Tests.{false-true}
use Rattle.words.specs.Faults.{fault_number}
use Rattle.words.specs.declared.fault.Fault.TheVariants.{BreaksGrammar}
use Rattle.words.specs.declared.fault.Refusal as error
use Rattle.tokens.specs.Token.{tokens}
use Rattle.tokens.specs.Sorts.{sort_number}
use Rattle.tokens.specs.Unread.{unread, spanned, Met}
use Rattle.tokens.specs.declared.Span.{Span}
use Rattle.grammar.specs.Brackets.{fits_inside, length_from}
use Rattle.grammar.specs.Grammar.{step, fitting, gives, Due, Inside, Next, single_step}
use Rattle.grammar.specs.Machine.{opening_of, element_of, closing_of}
use Rattle.grammar.specs.declared.form.Bracketed.{Bracketed}
use Rattle.grammar.specs.declared.form.Bracketed.TheVariants as b
use Rattle.grammar.proofs.Ahead.{length-closed, length-on}
use Rattle.texts.specs.Text.{fault_from}
use Rattle.texts.specs.TextReading.{Adds, Reads, Fails, inside, length_at, Listed}
use Rattle.texts.specs.declared.written.Written.{Written}
use Rattle.texts.proofs.Loop.{adds-none, adds-on, reads-on, reads-none, reads-word, fails-on, fails-here, met}

-- what is due inside brackets after a token of a sort
abbrev pub after : Bracketed → ℕ → ℕ → ℕ → ℕ → Due
after l before c k n = Inside c k n (element_of l) (closing_of l) before

-- from place i on, after the opening bracket, up to place j, after a token of a sort: each element's word is written
pub record Within (bs : List ℕ) (l : Bracketed) (i : ℕ) (old now : Written) (j : ℕ) (before : ℕ) : Type 0 where
  pub words : List ℕ
  pub adds : Adds old now words
  pub reads : (c k n : ℕ) → Reads bs i (inside l c k n) words j (after l before c k n)
  pub count : length_at bs l i ≡ length_from (element_of l) (closing_of l) before (length words) (unread bs j)
  pub onward : i ≤ j
  pub ends : j ≤ length bs
  pub few : now.count ≤ j

pub begin : (bs : List ℕ) (l : Bracketed) (i : ℕ) (w : Written) → i ≤ length bs → w.count ≤ i → Within bs l i w w i (opening_of l)
begin bs l i w e f = record { words = []; adds = adds-none w; reads = λ c k n. record { faults = refl; words = refl }; count = refl; onward = omega arith; ends = e; few = f }

-- ---- sorts that do not fit

either : (x : Bool) → (false if x else false) ≡ false
either true = refl
either false = refl

pub no_end : (l : Bracketed) (before : ℕ) → fits_inside (element_of l) (closing_of l) before 257 ≡ false
unfolding fits_inside
no_end b.Numbers n = either (eqb n 1)
no_end b.Variables n = either (eqb n 2)
no_end b.Set n = either (eqb n 1)
no_end b.Parallel n = either (eqb n 2)

no_colon : (l : Bracketed) (before : ℕ) → fits_inside (element_of l) (closing_of l) before 58 ≡ false
unfolding fits_inside
no_colon b.Numbers n = either (eqb n 1)
no_colon b.Variables n = either (eqb n 2)
no_colon b.Set n = either (eqb n 1)
no_colon b.Parallel n = either (eqb n 2)

not-closing : (l : Bracketed) → eqb (element_of l) (closing_of l) ≡ false
not-closing b.Numbers = refl
not-closing b.Variables = refl
not-closing b.Set = refl
not-closing b.Parallel = refl

-- a token that fits is no colon
pub fitting-colon : (l : Bracketed) (before s : ℕ) → fits_inside (element_of l) (closing_of l) before s ≡ true → eqb s 58 ≡ false
fitting-colon l before s h = go (eqb s 58) refl
  where
    go : (x : Bool) → eqb s 58 ≡ x → x ≡ false
    go true e = let f : fits_inside (element_of l) (closing_of l) before 58 ≡ true = rw (eqb-true s 58 e) at h in absurd (false-true (sym (no_colon l before) ∙ f))
    go false e = refl

-- ---- the next token

module _ {bs : List ℕ} {l : Bracketed} {i j : ℕ} {old now : Written} {before : ℕ} (w : Within bs l i old now j before) where
  module _ {t : Span} (m : Met bs j t) (fit : fits_inside (element_of l) (closing_of l) before (sort_number t.sort) ≡ true) where
    -- an element
    module _ {x : ℕ} (is : sort_number t.sort ≡ element_of l) (writes : (next : Due) → single_step (tokens bs) (element_of l) (spanned bs t) next ≡ record { fault = 0; word = x; next = next }) where
      one : eqb (sort_number t.sort) (element_of l) ≡ true
      one = eq-eqb (sort_number t.sort) (element_of l) is

      element-step : (c k n : ℕ) → met (after l before c k n) m ≡ record { fault = 0; word = x; next = after l (sort_number t.sort) c k n }
      unfolding step spanned
      element-step c k n = rw (fit, one) (writes (after l (element_of l) c k n) ∙ ap (λ (s : ℕ). record { fault = 0; word = x; next = after l s c k n }) (sym is))

      element-count : length_from (element_of l) (closing_of l) before (length w.words) (unread bs j) ≡ length_from (element_of l) (closing_of l) (sort_number t.sort) (length w.words + 1) (unread bs t.stop)
      unfolding spanned
      element-count = length-on (element_of l) (closing_of l) before (length w.words) (spanned bs t) m.found fit (rw is (not-closing l)) true one

      pub element-on : {new : Written} → 0 < x → Adds now new (x ∷ []) → Within bs l i old new t.stop (sort_number t.sort)
      element-on h a = record {
        words = w.words ++ (x ∷ []);
        adds = adds-on w.adds a;
        reads = λ c k n. reads-on (w.reads c k n) (reads-word (after l before c k n) m (element-step c k n) h);
        count = w.count ∙ element-count ∙ rw (length-append w.words (x ∷ [])) refl;
        onward = omega (arith, w.onward, m.onward, m.longer);
        ends = m.inside;
        few = omega (arith, a.count, w.few, m.onward, m.longer);
      }

    module _ (other : eqb (sort_number t.sort) (element_of l) ≡ false) where
      -- a comma
      module _ (open_yet : eqb (sort_number t.sort) (closing_of l) ≡ false) where
        comma-step : (c k n : ℕ) → met (after l before c k n) m ≡ record { fault = 0; word = 0; next = after l (sort_number t.sort) c k n }
        unfolding step fitting gives spanned
        comma-step c k n = rw (fit, other, open_yet) refl

        comma-count : length_from (element_of l) (closing_of l) before (length w.words) (unread bs j) ≡ length_from (element_of l) (closing_of l) (sort_number t.sort) (length w.words + 0) (unread bs t.stop)
        unfolding spanned
        comma-count = length-on (element_of l) (closing_of l) before (length w.words) (spanned bs t) m.found fit open_yet false other

        pub comma-on : Within bs l i old now t.stop (sort_number t.sort)
        comma-on = record {
          words = w.words;
          adds = w.adds;
          reads = λ c k n. rw (append-nil w.words) at (reads-on (w.reads c k n) (reads-none (after l before c k n) m (comma-step c k n)));
          count = w.count ∙ rw (add-zero (length w.words)) at comma-count;
          onward = omega (arith, w.onward, m.onward, m.longer);
          ends = m.inside;
          few = omega (arith, w.few, m.onward, m.longer);
        }

      -- the closing bracket
      module _ (closes : sort_number t.sort ≡ closing_of l) where
        closing : eqb (sort_number t.sort) (closing_of l) ≡ true
        closing = eq-eqb (sort_number t.sort) (closing_of l) closes

        closing-step : (c k n : ℕ) → met (after l before c k n) m ≡ record { fault = 0; word = 0; next = Next c k n }
        unfolding step fitting gives spanned
        closing-step c k n = rw (fit, other, closing) refl

        closing-count : length_from (element_of l) (closing_of l) before (length w.words) (unread bs j) ≡ length w.words + 1
        unfolding spanned
        closing-count = length-closed (element_of l) (closing_of l) before (length w.words) (spanned bs t) m.found fit closing

        pub closed : Listed bs l i old now t.stop
        closed = record {
          words = w.words;
          adds = w.adds;
          reads = λ c k n. rw (append-nil w.words) at (reads-on (w.reads c k n) (reads-none (after l before c k n) m (closing-step c k n)));
          count = w.count ∙ closing-count;
          onward = omega (arith, w.onward, m.onward, m.longer);
          ends = m.inside;
          few = omega (arith, w.few, m.onward, m.longer);
        }

  -- a token with a fault
  pub fails-there : {t : Span} → Met bs j t → (e : error.Refusal) → ((c k n : ℕ) → (step (tokens bs) (after l before c k n) (spanned bs t) []).fault ≡ fault_number e.fault) → e.place ≡ t.place → (c k n : ℕ) → Fails bs i (inside l c k n) e
  unfolding step
  fails-there m e f p c k n = fails-on e (w.reads c k n) (fails-here (after l before c k n) m e (f c k n) p)

  -- the end of the text
  pub fails-at-end : unread bs j ≡ [] → (c k n : ℕ) → Fails bs i (inside l c k n) (record { fault = BreaksGrammar; place = length bs })
  unfolding fault_from step fitting gives
  fails-at-end q c k n = fails-on (record { fault = BreaksGrammar; place = length bs }) (w.reads c k n) (rw (q, no_end l before) refl)
