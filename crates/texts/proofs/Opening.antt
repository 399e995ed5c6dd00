-- A list or set from its opening bracket on: its length word is put before the words of its elements, or its length is compared. For `read_counted` and `read_argument`.
use Rattle.std.proofs.Common.{◌≡◌, refl, ap, ◌∙◌, Bool, true, false, List, [], ◌∷◌, ℕ, suc, ◌+◌, ◌-◌, ◌<◌, arith, add-one, eq-eqb, ne_eqb, length, set}
use lib.Seq.{set_comm}
use Rattle.integers.proofs.Tests.{false-true}
use Rattle.words.specs.Kind as Kind
use Rattle.words.specs.Word.{word}
use Rattle.words.specs.Overlay.{overlay}
use Rattle.words.specs.Faults.{fault_number}
use Rattle.words.specs.Refusal.{◌at_place◌}
use Rattle.words.specs.declared.fault.Refusal as error
use Rattle.models.specs.Codes.{code_number}
use Rattle.tokens.specs.Sorts.{sort_number}
use Rattle.tokens.specs.Unread.{spanned}
use Rattle.tokens.specs.declared.Span.{Span}
use Rattle.grammar.specs.Grammar.{argument_step, fitting, gives}
use Rattle.grammar.specs.Machine.{opening_of, is_second, opened}
use Rattle.grammar.specs.declared.form.Bracketed.{Bracketed}
use Rattle.grammar.specs.declared.form.Bracketed.TheVariants as b
use Rattle.grammar.specs.declared.due.ListPlace.{ListPlace}
use Rattle.texts.specs.TextReading.{inside, length_at, Listed, ListFails, Counted, as_long_ahead, SecondFails, fault_after, ArgumentRead}
use Rattle.texts.specs.declared.written.Written.{Written}

-- ---- the length word before the others

set-before : (out : List ℕ) (at : ℕ) (xs : List ℕ) (k w : ℕ) → k < at → set (overlay out at xs) k w ≡ overlay (set out k w) at xs
unfolding overlay
set-before out at [] k w h = refl
set-before out at (x ∷ xs) k w h = set-before (set out at x) (suc at) xs k w (omega arith) ∙ ap (λ l. overlay l (suc at) xs) (set_comm out at k x w (λ e. omega (arith, e)))

pub counted : {bs : List ℕ} {l : Bracketed} {i j : ℕ} {old mid new final : Written} {n : ℕ} → mid.list.now ≡ old.list.now → mid.count ≡ old.count + 1 → Listed bs l i mid new j
    → n ≡ new.count - (old.count + 1) → final.list.now ≡ set new.list.now old.count (word Kind.number n) → final.count ≡ new.count → Counted bs l i old final (j, n)
unfolding overlay
counted {old = old} {n = n} p q h m s f =
    let z : n ≡ length h.words = omega (arith, m, q, h.adds.count) in
    record {
      words = h.words;
      adds = record {
        list = s ∙ rw (h.adds.list, p, q, add-one) (set-before old.list.now (suc old.count) h.words old.count (word Kind.number n) (omega arith));
        count = omega (arith, f, h.adds.count, q);
      };
      reads = h.reads;
      count = omega (arith, h.count, z);
      onward = h.onward;
      ends = h.ends;
      few = omega (arith, f, h.few);
    }

-- ---- the step at the opening bracket

pub some-word : (n : ℕ) → 0 < word Kind.number n
unfolding word
some-word n = omega arith

second-is : (l : Bracketed) → is_second l ≡ true → l ≡ b.Parallel
second-is b.Numbers e = absurd (false-true e)
second-is b.Variables e = absurd (false-true e)
second-is b.Set e = absurd (false-true e)
second-is b.Parallel e = refl

module _ (bs : List ℕ) (l : ListPlace) (t : Span) (opens : sort_number t.sort ≡ opening_of l.bracketed) where
  module _ (first : is_second l.bracketed ≡ false) where
    first-step : (n : ℕ) → length_at bs l.bracketed t.stop - 1 ≡ n → opened l bs t ≡ record { fault = 0; word = word Kind.number n; next = inside l.bracketed (code_number l.next.code) l.next.argument n }
    unfolding argument_step fitting gives spanned
    first-step n e = rw (first, opens, eq-eqb (opening_of l.bracketed) (opening_of l.bracketed) refl, e) refl

    pub reads-counted : {old new : Written} {r : ℕ × ℕ} → Counted bs l.bracketed t.stop old new r → ArgumentRead bs l t old new (r.0, record { code = l.next.code; argument = l.next.argument; length = r.1 })
    reads-counted {r = r} h =
        let s = first-step r.1 (omega (arith, h.count)) in
        let q = h.reads (code_number l.next.code) l.next.argument r.1 in
        record {
          words = word Kind.number r.1 ∷ h.words;
          adds = h.adds;
          faults = rw s q.faults;
          reads = rw (s, ne_eqb (word Kind.number r.1) 0 (λ z. omega (arith, z, some-word r.1))) (ap (λ ws. word Kind.number r.1 ∷ ws) q.words);
          onward = h.onward;
          ends = h.ends;
          few = h.few;
        }

    pub fails-counted : (e : error.Refusal) → ListFails bs l.bracketed t.stop e → fault_after bs t (opened l bs t) ≡ fault_number e.fault at_place e.place
    fails-counted e h = rw (first-step (length_at bs l.bracketed t.stop - 1) refl) (h (code_number l.next.code) l.next.argument (length_at bs l.bracketed t.stop - 1))

  module _ (second : is_second l.bracketed ≡ true) where
    is : l.bracketed ≡ b.Parallel
    is = second-is l.bracketed second

    second-step : as_long_ahead bs t.stop l.next.length ≡ true → opened l bs t ≡ record { fault = 0; word = 0; next = inside b.Parallel (code_number l.next.code) l.next.argument l.next.length }
    unfolding argument_step fitting gives spanned
    second-step e = rw (is, rw is at opens, e) refl

    pub reads-second : {old new : Written} {j : ℕ} → Listed bs b.Parallel t.stop old new j → as_long_ahead bs t.stop l.next.length ≡ true → ArgumentRead bs l t old new (j, l.next)
    reads-second h e =
        let q = h.reads (code_number l.next.code) l.next.argument l.next.length in
        record { words = h.words; adds = h.adds; faults = rw (second-step e) q.faults; reads = rw (second-step e) q.words; onward = h.onward; ends = h.ends; few = h.few }

    other-length : as_long_ahead bs t.stop l.next.length ≡ false → (opened l bs t).fault ≡ 19
    unfolding argument_step fitting gives spanned
    other-length e = rw (is, rw is at opens, e) refl

    pub fails-second : (e : error.Refusal) → SecondFails bs l.next.length t e → fault_after bs t (opened l bs t) ≡ fault_number e.fault at_place e.place
    fails-second e h = go (as_long_ahead bs t.stop l.next.length) refl
      where
        go : (x : Bool) → as_long_ahead bs t.stop l.next.length ≡ x → fault_after bs t (opened l bs t) ≡ fault_number e.fault at_place e.place
        go true q = rw (second-step q) (h.inside q (code_number l.next.code) l.next.argument l.next.length)
        go false q = let p = h.before q in rw (other-length q, p.0, p.1) refl
