-- A scope with one more name, from what the map's insert says.
use Rattle.std.proofs.Common.{◌≡◌, refl, ap, ◌∙◌, Bool, true, false, cond, List, [], ℕ, Option, Some, option_map}
use mathlib.Core.Path.{fun_ext}
use Rattle.std.specs.Borrow.{Bor}
use Rattle.std.specs.BTreeMap.{BTreeMap, UpdatesBy, get_by, is_at}
use Rattle.std.specs.Map.{lookup}
use Rattle.std.specs.Ordering.{nat_cmp}
use Rattle.std.specs.declared.cmp.Ordering.{Ordering}
use Rattle.std.specs.Cmp.Lexicographic.{slice_cmp}
use Rattle.std.specs.Str.{bytes_eq}
use Rattle.std.proofs.lemmas.Map.Text.{btree_map_updates_str}
use Rattle.integers.specs.Choice.{◌if◌else◌}
use Rattle.flatnames.specs.Scope.{nothing, with}
use Rattle.flatnames.specs.Seen.{scope_of, known_of}
use Rattle.flatnames.specs.declared.state.Known.{Known}

abbrev order : Bor (List ℕ) → Bor (List ℕ) → Ordering
order x y = slice_cmp nat_cmp x.now y.now

chosen : (b : Bool) (k : Known) (o : Option Known) → option_map known_of (cond b (Some k) o) ≡ (Some (known_of k) if b else option_map known_of o)
chosen true k o = refl
chosen false k o = refl

pub declared : (m n : BTreeMap (Bor (List ℕ)) Known) (q : List ℕ) (k : Known) → UpdatesBy order (λ x. slice_cmp nat_cmp q x.now) m n (Some k) → scope_of n ≡ with (scope_of m) q (known_of k)
unfolding scope_of
declared m n q k u = fun_ext (λ r. ap (option_map known_of) (btree_map_updates_str q m n (Some k) u r) ∙ chosen (bytes_eq q r) k (get_by (λ x. slice_cmp nat_cmp r x.now) m))

pub undeclared : (m : BTreeMap (Bor (List ℕ)) Known) → m.entries ≡ [] → scope_of m ≡ nothing
unfolding scope_of
undeclared m e = fun_ext (λ r. ap (λ (es : List (Bor (List ℕ) × Known)). option_map known_of (lookup (is_at (λ k. slice_cmp nat_cmp r k.now)) es)) e)
