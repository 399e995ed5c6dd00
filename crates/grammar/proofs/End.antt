-- The end of a text, met as a token. For `check_end`.
use Rattle.std.proofs.Common.{◌≡◌, List, [], ℕ, ◌-◌, arith, length}
use Rattle.tokens.specs.Token.{tokens}
use Rattle.tokens.specs.Unread.{unread, spanned}
use Rattle.tokens.specs.declared.Span.{Span}
use Rattle.tokens.specs.declared.sort.Sort.TheVariants as s
use Rattle.tokens.proofs.Places.{none_left}
use Rattle.grammar.specs.Grammar.{Due, step}
use Rattle.grammar.specs.Machine.{opening_of}
use Rattle.grammar.specs.declared.form.Bracketed.{Bracketed}
use Rattle.grammar.specs.declared.form.Bracketed.TheVariants as b

module _ (bs : List ℕ) where
  abbrev pub last : Span
  last = record { sort = s.End; place = length bs; stop = length bs }

  pub at_end : (due : Due) → step (tokens bs) due (spanned bs last) (unread bs (length bs)) ≡ step (tokens bs) due (record { sort = 257; place = length bs; spelling = [] }) []
  unfolding spanned
  at_end due = let e : length bs - length bs ≡ 0 = omega arith in rw (none_left bs (length bs) (omega arith), e)

-- it opens no list or set, and is no comma and no closing bracket
pub no_list : (l : Bracketed) → 257 ≡ opening_of l → ⊥
no_list b.Numbers e = omega (arith, e)
no_list b.Variables e = omega (arith, e)
no_list b.Set e = omega (arith, e)
no_list b.Parallel e = omega (arith, e)
