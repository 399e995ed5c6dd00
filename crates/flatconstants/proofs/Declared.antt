-- Atoms that are declared.
use Rattle.std.proofs.Common.{◌≡◌, refl, sym, ap, ◌∙◌, true, false, List, [], ◌∷◌, ℕ, ◌+◌, ◌<◌, ◌≤◌, add-one, length, get_or, drop, drop-cons, drop_of_length-le, ltb-true, Some}
use Rattle.integers.specs.Lists.{all}
use Rattle.integers.proofs.Tests.{All}
use Rattle.integers.proofs.Lists.{all_append}
use Rattle.integers.proofs.Booleans.{both_true}
use Rattle.flatzinc.specs.declared.Atom.{Atom}
use Rattle.flatzinc.specs.declared.Atom.TheVariants.{Whole, Truth, Variable}
use Rattle.flatzinc.specs.declared.Call.{Call}
use Rattle.flatzinc.specs.Items.{Placed}
use Rattle.flatzinc.specs.Calls.{placed_all}
use Rattle.flatconstants.specs.Constants.{atoms_of}
use Rattle.flatconstants.specs.Numbers.{is_declared, calls_atoms}
use Rattle.flatconstants.proofs.BuiltLaws.{same-atoms}
use Rattle.flatconstants.proofs.Constants.{DeclaredAtom}

module _ (n : ℕ) (xs : List Atom) (i : ℕ) where
  pub stays : (d : Atom) → i < length xs → is_declared n (get_or xs i d) ≡ true → all (is_declared n) (drop i xs) ≡ all (is_declared n) (drop (i + 1) xs)
  unfolding all
  stays d l e = let f : drop i xs ≡ get_or xs i d ∷ drop (i + 1) xs = drop-cons xs i d l ∙ rw add-one refl in ap (all (is_declared n)) f ∙ rw e refl

  pub fails : (d : Atom) → i < length xs → is_declared n (get_or xs i d) ≡ false → all (is_declared n) (drop i xs) ≡ false
  unfolding all
  fails d l e = ap (all (is_declared n)) (drop-cons xs i d l) ∙ rw e refl

  pub at_end : length xs ≤ i → all (is_declared n) (drop i xs) ≡ true
  unfolding all
  at_end l = ap (all (is_declared n)) (drop_of_length-le xs l)

one-declared : (n : ℕ) (a : Atom) → is_declared n a ≡ true → DeclaredAtom n a
unfolding is_declared
one-declared n (Whole m) e = tt
one-declared n (Truth b) e = tt
one-declared n (Variable v) e = ltb-true v n e

each-declared : (n : ℕ) (xs : List Atom) → all (is_declared n) xs ≡ true → All (DeclaredAtom n) xs
unfolding all
each-declared n [] e = tt
each-declared n (x ∷ xs) e = let h = both_true (is_declared n x) (all (is_declared n) xs) e in (one-declared n x h.0, each-declared n xs h.1)

placed-declared : (n : ℕ) (ps : List Placed) → All (DeclaredAtom n) (atoms_of ps) → All (λ p. All (DeclaredAtom n) p.atoms) ps
unfolding atoms_of
placed-declared n [] h = tt
placed-declared n (p ∷ ps) h = let a = (all_append (DeclaredAtom n) p.atoms (atoms_of ps)).0 h in (a.0, placed-declared n ps a.1)

-- what the code tested of calls is true of what they place
pub declared-all : (n : ℕ) (cs : List Call) (ps : List Placed) → placed_all cs ≡ Some ps → all (is_declared n) (calls_atoms cs) ≡ true → All (λ p. All (DeclaredAtom n) p.atoms) ps
declared-all n cs ps h e = placed-declared n ps (each-declared n (atoms_of ps) (ap (all (is_declared n)) (sym (same-atoms cs ps h)) ∙ e))
