-- Variables and calls are those of FlatZinc, with constants, and what the theorem asks of them was tested.
use Rattle.std.specs.Prelude.{◌≡◌, length, Some}
use Rattle.integers.proofs.Tests.{All}
use Rattle.flatzinc.specs.Items.{FlatZinc, Placed}
use Rattle.flatzinc.specs.Numbers.{bounds_of}
use Rattle.flatzinc.specs.Calls.{built_all}
use Rattle.flatzinc.proofs.Agreeing.{Typed}
use Rattle.flatconstants.specs.Constants.{Prepared}
use Rattle.flatconstants.specs.Numbered.{numbered}
use Rattle.flatconstants.specs.declared.number.Numbered.{Numbered}
use Rattle.flatconstants.proofs.Constants.{DeclaredAtom}
use Rattle.flattening.specs.Flattened.{prepared, GivenTyped, ItemTyped}

pub record IsNumberedOf (F : FlatZinc) (n : Numbered) : Type 0 where
  pub P : Prepared
  pub is_prepared : prepared F ≡ Some P
  pub givens : All (λ d. GivenTyped F d.domain d.given) F.variables
  pub items : All (ItemTyped F) F.constraints
  pub declared : All (λ (p : Placed). All (DeclaredAtom (length P.bounds)) p.atoms) P.items
  pub typed : All (Typed (numbered P).bounds) (numbered P).builtins
  pub bounds : bounds_of n.variables.items ≡ (numbered P).bounds
  pub builtins : built_all n.calls.items ≡ Some (numbered P).builtins
