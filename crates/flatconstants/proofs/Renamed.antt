-- What a renamed builtin means: the builtin of the values that the new numbers have.
use Rattle.std.proofs.Common.{◌≡◌, refl, ap, ◌&&◌, ◌||◌, List, [], ◌∷◌, map, ℕ, ◌+◌, pos}
use Rattle.integers.specs.Choice.{◌if◌else◌}
use Rattle.integers.specs.Number.{◌⊕◌, ◌⊗◌, ◌≟◌}
use Rattle.integers.specs.Lists.{all, any, how_many}
use Rattle.integers.specs.Terms.{Valuation, Term, sum}
use Rattle.models.specs.Builtin.{Builtin, int_eq, int_le, int_lt, int_ne, int_le_reif, int_plus, int_times, int_abs, int_max, int_lin_eq, int_lin_le, int_lin_ne, int_lin_eq_reif, int_eq_reif, int_lin_le_reif, bool2int, bool_not, bool_and, bool_or, bool_xor, bool_clause, array_bool_and, array_bool_xor, array_int_element, array_var_int_element, array_int_maximum, set_in, set_in_reif, int_min, int_lt_reif, int_ne_reif, int_lin_ne_reif, array_int_minimum, bool_eq_reif, bool_le_reif, bool_lt_reif, int_div, int_mod, int_pow}
use Rattle.models.specs.Meaning.{meaning, on, off}
use Rattle.flatconstants.specs.Renamed.{renamed, renamed_terms}

module _ (σ : Valuation) (ρ : ℕ → ℕ) where
  abbrev τ : Valuation
  τ v = σ (ρ v)

  map-map : (xs : List ℕ) → map σ (map ρ xs) ≡ map τ xs
  map-map [] = refl
  map-map (x ∷ xs) = ap (λ l. τ x ∷ l) (map-map xs)

  all-map : (xs : List ℕ) → all (on σ) (map ρ xs) ≡ all (on τ) xs
  unfolding all on
  all-map [] = refl
  all-map (x ∷ xs) = ap (λ b. (τ x ≟ pos 1) && b) (all-map xs)

  any-map : (xs : List ℕ) → any (on σ) (map ρ xs) ≡ any (on τ) xs
  unfolding any on
  any-map [] = refl
  any-map (x ∷ xs) = ap (λ b. (τ x ≟ pos 1) || b) (any-map xs)

  any_off-map : (xs : List ℕ) → any (off σ) (map ρ xs) ≡ any (off τ) xs
  unfolding any off
  any_off-map [] = refl
  any_off-map (x ∷ xs) = ap (λ b. (τ x ≟ pos 0) || b) (any_off-map xs)

  how_many-map : (xs : List ℕ) → how_many (on σ) (map ρ xs) ≡ how_many (on τ) xs
  unfolding how_many on
  how_many-map [] = refl
  how_many-map (x ∷ xs) = ap (λ n. (1 if τ x ≟ pos 1 else 0) + n) (how_many-map xs)

  sum-map : (ts : List (Term ℕ)) → sum σ (renamed_terms ρ ts) ≡ sum τ ts
  unfolding sum
  sum-map [] = refl
  sum-map (t ∷ ts) = ap (λ s. t.coefficient ⊗ τ t.variable ⊕ s) (sum-map ts)

  pub meaning-renamed : (b : Builtin) → meaning σ (renamed ρ b) ≡ meaning τ b
  unfolding meaning renamed on
  meaning-renamed (int_eq a b) = refl
  meaning-renamed (int_le a b) = refl
  meaning-renamed (int_lt a b) = refl
  meaning-renamed (int_ne a b) = refl
  meaning-renamed (int_le_reif a b r) = refl
  meaning-renamed (int_plus a b c) = refl
  meaning-renamed (int_times a b c) = refl
  meaning-renamed (int_abs x y) = refl
  meaning-renamed (int_max a b c) = refl
  meaning-renamed (int_lin_eq ts c) = rw (sum-map ts) refl
  meaning-renamed (int_lin_le ts c) = rw (sum-map ts) refl
  meaning-renamed (int_lin_ne ts c) = rw (sum-map ts) refl
  meaning-renamed (int_lin_eq_reif ts c r) = rw (sum-map ts) refl
  meaning-renamed (int_eq_reif a b r) = refl
  meaning-renamed (int_lin_le_reif ts c r) = rw (sum-map ts) refl
  meaning-renamed (bool2int a b) = refl
  meaning-renamed (bool_not a b) = refl
  meaning-renamed (bool_and a b r) = refl
  meaning-renamed (bool_or a b r) = refl
  meaning-renamed (bool_xor a b r) = refl
  meaning-renamed (bool_clause xs ys) = rw (any-map xs, any_off-map ys) refl
  meaning-renamed (array_bool_and xs r) = rw (all-map xs) refl
  meaning-renamed (array_bool_xor xs) = rw (how_many-map xs) refl
  meaning-renamed (array_int_element i ns c) = refl
  meaning-renamed (array_var_int_element i xs c) = rw (map-map xs) refl
  meaning-renamed (array_int_maximum m xs) = rw (map-map xs) refl
  meaning-renamed (set_in x S) = refl
  meaning-renamed (set_in_reif x S r) = refl
  meaning-renamed (int_min a b c) = refl
  meaning-renamed (int_lt_reif a b r) = refl
  meaning-renamed (int_ne_reif a b r) = refl
  meaning-renamed (int_lin_ne_reif ts c r) = rw (sum-map ts) refl
  meaning-renamed (array_int_minimum m xs) = rw (map-map xs) refl
  meaning-renamed (bool_eq_reif a b r) = refl
  meaning-renamed (bool_le_reif a b r) = refl
  meaning-renamed (bool_lt_reif a b r) = refl
  meaning-renamed (int_div n d q) = refl
  meaning-renamed (int_mod n d r) = refl
  meaning-renamed (int_pow x k z) = refl
