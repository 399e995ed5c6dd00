-- The tokens from a place on, and what finding the next one says of them.
use Rattle.std.specs.Prelude.{false, List, ◌∷◌, map, ◌≡◌, ℕ, ◌-◌, ◌<◌, ◌≤◌, length, get_or, take, drop}
use Rattle.tokens.specs.Byte.{is_gap}
use Rattle.tokens.specs.Token as Token
use Rattle.tokens.specs.Sorts.{sort_number}
use Rattle.tokens.specs.Token.{Token, tokens_from}
use Rattle.tokens.specs.declared.Span.{Span}

-- the bytes between two places
abbrev pub bytes_between : List ℕ → ℕ → ℕ → List ℕ
bytes_between bs place stop = take (stop - place) (drop place bs)

-- the tokens from a place on
unfoldable pub unread : List ℕ → ℕ → List Token
unread bs i = tokens_from 0 i (drop i bs)

-- the bytes of each token
unfoldable pub spellings : List Token → List (List ℕ)
spellings = map (λ t. t.spelling)

-- the token between two places
unfoldable pub spanned : List ℕ → Span → Token
spanned bs s = record { sort = sort_number s.sort; place = s.place; spelling = bytes_between bs s.place s.stop }

-- blanks and comments between two places
pub record SkipsGaps (bs : List ℕ) (i j : ℕ) : Type 0 where
  pub onward : i ≤ j
  pub inside : j ≤ length bs
  pub same : unread bs i ≡ unread bs j
  pub no_gap : j < length bs → is_gap (get_or bs j 0) ≡ false

-- the next token from a place on
pub record Met (bs : List ℕ) (i : ℕ) (s : Span) : Type 0 where
  pub onward : i ≤ s.place
  pub inside : s.stop ≤ length bs
  pub longer : s.place < s.stop
  pub no_end : sort_number s.sort ≡ Token.end → ⊥
  pub found : unread bs i ≡ spanned bs s ∷ unread bs s.stop

-- a token, or the end, stands between two places of a text; a number has a byte
pub record Stands (bs : List ℕ) (s : Span) : Type 0 where
  pub onward : s.place ≤ s.stop
  pub inside : s.stop ≤ length bs
  pub some : sort_number s.sort ≡ Token.number → s.place < s.stop
