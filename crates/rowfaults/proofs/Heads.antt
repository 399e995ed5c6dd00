-- A variable starts with one of three kinds: neither of the two of pairs is that of a Boolean variable.
use Rattle.std.proofs.Common.{◌≡◌, true, ℕ, ne_eqb, eqb-true}
use Rattle.words.specs.Kind as Kind
use Rattle.words.specs.Word.{kind}
use Rattle.words.specs.Variables.{starts_pair}
use Rattle.variables.specs.Start.{starts}

pub boolean-kind : (w : ℕ) → starts w ≡ true → (kind w ≡ Kind.lower → ⊥) → (kind w ≡ Kind.auxiliary_lower → ⊥) → kind w ≡ Kind.boolean
unfolding starts starts_pair
boolean-kind w s f g = eqb-true (kind w) Kind.boolean (rw (ne_eqb (kind w) Kind.lower f, ne_eqb (kind w) Kind.auxiliary_lower g) at s)
