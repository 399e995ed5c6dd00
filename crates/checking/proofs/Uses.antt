-- The counted uses of an accepted model say which variables are shared.
use Rattle.std.proofs.Common.{◌≡◌, refl, sym, ap, ◌∙◌, false, List, [], ◌∷◌, ℕ, ◌≤◌, ◌<◌, arith, ltb, eqb, length, get_or, ne_eqb}
use mathlib.Core.Path.{fun_ext}
use native.Mathlib.Decide.{dec_lt}
use lib.ListN.{get_or-eq_default}
use Rattle.integers.specs.Lists.{any, how_many}
use Rattle.integers.specs.declared.Bounds.{Bounds}
use Rattle.integers.proofs.Tests.{All}
use Rattle.words.specs.Refusal.{accepted}
use Rattle.words.specs.Variables.{variables}
use Rattle.models.specs.Builtin.{Builtin}
use Rattle.models.specs.Model.{Constraint, constraints, builtin}
use Rattle.models.specs.Reading.{read_model}
use Rattle.models.proofs.Arguments.{integer_arguments}
use Rattle.models.proofs.Accepted.{TypedIn, typed, few-variables}
use Rattle.rules.specs.Shared.{Choice, choice, encodes, shared_in}
use Rattle.rules.specs.Translation.{shared}
use Rattle.sharing.proofs.Choices.{View, is-element, is_var_element, is_set, is_set_reif, other, view}
use Rattle.encodings.specs.Uses.{no_uses, uses_from, shared_by}
use Rattle.encodings.proofs.Record.{get_or-none_yet, none-many}
use Rattle.encodings.proofs.Uses.{uses-length, uses-are}

-- a variable past the last one is encoded nowhere
module _ (Bs : List Bounds) (v : ℕ) (h : length Bs ≤ v) where
  unused : {ch : Choice} {b : Builtin} → View ch b → TypedIn Bs b → any (eqb v) (encodes ch) ≡ false
  unfolding encodes any integer_arguments
  unused (is-element i ns c) t = rw (ne_eqb v i (λ e. omega (arith, e, t.integers.0)))
  unused (is_var_element i xs c) t = rw (ne_eqb v i (λ e. omega (arith, e, t.integers.0)))
  unused (is_set x S) t = rw (ne_eqb v x (λ e. omega (arith, e, t.integers.0)))
  unused (is_set_reif x S r) t = rw (ne_eqb v x (λ e. omega (arith, e, t.integers.0)))
  unused (other b) t = refl

  none_use : (cs : List Constraint) → All (λ c. TypedIn Bs (builtin c)) cs → how_many (λ c. any (eqb v) (encodes (choice c))) cs ≡ 0
  unfolding how_many
  none_use [] t = refl
  none_use (c ∷ cs) t = rw (unused (view c) t.0) (omega (arith, none_use cs t.1))

pub uses-shared : (ws : List ℕ) → read_model ws ≡ accepted → shared_by (uses_from no_uses (constraints ws)) ≡ shared ws
unfolding shared shared_in
uses-shared ws h = fun_ext (λ v. ap (ltb 1) (at v (dec_lt v 256)))
  where
    cs : List Constraint
    cs = constraints ws

    at : (v : ℕ) → Dec (v < 256) → get_or (uses_from no_uses cs) v 0 ≡ how_many (λ c. any (eqb v) (encodes (choice c))) cs
    at v (yes p) = omega (arith, uses-are no_uses cs v (omega (arith, none-many, p)), get_or-none_yet v)
    at v (no n) =
        get_or-eq_default (uses_from no_uses cs) 0 (omega (arith, n, uses-length no_uses cs, none-many))
        ∙ sym (none_use (variables ws) v (omega (arith, n, few-variables ws h)) cs (typed ws h))
