-- The length of a list ahead, token by token. For `length_ahead`.
use Rattle.std.proofs.Common.{◌≡◌, Bool, true, false, List, [], ◌∷◌, ℕ, ◌+◌, eqb}
use Rattle.integers.specs.Choice.{◌if◌else◌}
use Rattle.tokens.specs.Token.{Token}
use Rattle.grammar.specs.Brackets.{fits_inside, length_from}

module _ (e c before n : ℕ) where
  pub length-end : {ts : List Token} → ts ≡ [] → length_from e c before n ts ≡ 0
  unfolding length_from
  length-end q = rw q

  module _ (t : Token) {ts us : List Token} (q : ts ≡ t ∷ us) where
    pub length-broken : fits_inside e c before t.sort ≡ false → length_from e c before n ts ≡ 0
    unfolding length_from
    length-broken f = rw (q, f)

    pub length-closed : fits_inside e c before t.sort ≡ true → eqb t.sort c ≡ true → length_from e c before n ts ≡ n + 1
    unfolding length_from
    length-closed f h = rw (q, f, h)

    pub length-on : fits_inside e c before t.sort ≡ true → eqb t.sort c ≡ false → (b : Bool) → eqb t.sort e ≡ b → length_from e c before n ts ≡ length_from e c t.sort (n + (1 if b else 0)) us
    unfolding length_from
    length-on f h b g = rw (q, f, h, g)
