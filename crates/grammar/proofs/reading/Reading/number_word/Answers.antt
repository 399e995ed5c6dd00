-- A number in the range, and one outside.
use Rattle.std.proofs.Common.{rules, ◌≡◌, refl, sym, ap, ◌∙◌, Bool, true, false, ℕ, arith, ℤ, pos, to_z, of_z, w64, Option, None, Some}
use Rattle.std.specs.Option.{is_some}
use denote.Enum.Bare.{differs_false}
use Rattle.integers.proofs.Fits.{back}
use Rattle.integers.proofs.Tests.{false-true}
use Rattle.integers.specs.Choice.{◌if◌else◌}
use Rattle.words.specs.Word.{word, number_word, in_range}
use Rattle.tokens.specs.contracts.sort.Sort.{the_type}
use Rattle.tokens.specs.Sorts.{sort_number}
use Rattle.tokens.specs.declared.sort.Sort.TheVariants.{Number}
use Rattle.tokens.specs.Token.{Token}
use Rattle.tokens.specs.Unread.{spanned}
use Rattle.grammar.specs.Grammar.{Due, number_step, of_sort, gives}
use Rattle.grammar.specs.Value.{value_of}
use Rattle.grammar.proofs.Written.{some_kind}
use Rattle.grammar.proofs.reading.Reading.number_word.Goals as goal

unwrapped : Option ℤ → ℤ
unwrapped None = pos 0
unwrapped (Some v) = v

module _ (kind : ℕ) (t : Token) (n : t.sort ≡ 1) where
  right : (b : Bool) (v : ℤ) → in_range (value_of t.spelling) ≡ b → Some v ≡ (Some (value_of t.spelling) if b else None) → (next : Due) → number_step kind t next ≡ record { fault = 0; word = number_word kind v; next = next }
  unfolding number_step of_sort gives unwrapped
  right true v e s next = rw (n, e) (ap (λ (z : ℤ). record { fault = 0; word = number_word kind z; next = next }) (sym (ap unwrapped s)))
  right false v e s next = absurd (false-true (sym (ap is_some s)))

  wrong : (b : Bool) → in_range (value_of t.spelling) ≡ b → None ≡ (Some (value_of t.spelling) if b else None) → (next : Due) → (number_step kind t next).fault ≡ 21
  unfolding number_step of_sort gives
  wrong false e s next = rw (n, e) refl
  wrong true e s next = absurd (false-true (ap is_some s))

pub returns-in-Some : goal.returns-in-Some
unfolding spanned word number_word
returns-in-Some c =
    let same : c.args.self.now.token.sort ≡ Number = differs_false the_type (search rules) _ _ (sym c.ne.ensures ∙ c.if-ne.false) in
    let t = spanned c.args.self.now.text.now c.args.self.now.token in
    let b = rw c.in-Some.is at c.value_of.type_inv in
    let k : to_z w64 (of_z w64 c.in-Some.value) ≡ c.in-Some.value = back c.in-Some.value (assumption b) in
    (rw c.of_number.ensures (omega (arith, some_kind c.args.kind)), rw (c.of_number.ensures, k) (right _ t (ap sort_number same) (in_range (value_of t.spelling)) c.in-Some.value refl (rw c.bytes.ensures at c.in-Some.ensures)))

pub returns-in-None : goal.returns-in-None
unfolding spanned
returns-in-None c =
    let same : c.args.self.now.token.sort ≡ Number = differs_false the_type (search rules) _ _ (sym c.ne.ensures ∙ c.if-ne.false) in
    let t = spanned c.args.self.now.text.now c.args.self.now.token in
    wrong _ t (ap sort_number same) (in_range (value_of t.spelling)) refl (rw c.bytes.ensures at c.in-None.ensures)
