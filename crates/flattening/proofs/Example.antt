-- An example, computed: the premises of the theorem can be met, and what comes out is what is wanted.
--   var 1..3: x; var bool: b; constraint int_le(2,x); constraint bool_eq(b,true);
use Rattle.std.proofs.Common.{◌≡◌, refl, true, false, List, [], ◌∷◌, arith, pos, Some, None}
use Rattle.integers.specs.Bounds.{◌to◌, bit}
use Rattle.integers.specs.Lists.{list_of, any}
use Rattle.models.specs.Table.{integer, takes}
use Rattle.models.specs.Builtin as B
use Rattle.flatzinc.specs.declared.Atom.TheVariants.{Whole, Truth, Variable}
use Rattle.flatzinc.specs.Items.{FlatZinc, between, bools, coded, bool_eq, one, placed, placed_from, taken}
use Rattle.flatconstants.specs.Constants.{Prepared, constants, collected, atoms_of, known, same_constant, with_constants, constant_bounds, constant_clauses, clauses_from, with_numbers, number_of, index_of}
use Rattle.flatrewriting.specs.Rewritten.{rewritten, clauses, without, is_constant, simplified_as, shorter}
use Rattle.flatconstants.specs.Renamed.{renamed}
use Rattle.flatsplitting.specs.Split.{split, split_all, with_cut, cut}
use Rattle.sharing.specs.SharedSolutions.{SatisfiesModel}
use Rattle.models.proofs.Arguments.{integer_arguments, boolean_arguments}
use Rattle.integers.specs.Bounds.{bounds_in, within}
use Rattle.integers.specs.Number.{◌≟◌}
use Rattle.flatzinc.specs.Items.{SatisfiesFlat}
use Rattle.flatzinc.specs.declared.ModelVariable.{ModelVariable}
use Rattle.flatzinc.specs.System.{Carries}
use Rattle.flattening.proofs.Theorem.{Flattens, model_of, further, model_carries}
use Rattle.flatrewriting.specs.Variables.{domain_bounds, domain_items, given_items}
use Rattle.flatconstants.specs.Numbered.{numbered}
use Rattle.flattening.specs.Flattened.{prepared, variable_items, constraint_items, with_parts}

F : FlatZinc
F = record {
  variables = record { domain = between (pos 1) (pos 3); given = None } ∷ record { domain = bools; given = None } ∷ [];
  constraints =
      coded (takes "int_le" (integer ∷ integer ∷ []) B.int_le) (one (Whole (pos 2)) ∷ one (Variable 0) ∷ [])
      ∷ bool_eq (Variable 1) (Truth true) ∷ [];
}

P : Prepared
P = record {
  bounds = (pos 1 to pos 3) ∷ bit ∷ [];
  items =
      record { builtin = B.int_le 0 1; atoms = Whole (pos 2) ∷ Variable 0 ∷ [] }
      ∷ record { builtin = B.bool_clause (0 ∷ []) []; atoms = Variable 1 ∷ [] } ∷ [];
}

is-prepared : prepared F ≡ Some P
unfolding F P prepared variable_items constraint_items domain_bounds domain_items given_items rewritten placed placed_from taken simplified_as clauses without is_constant any list_of
is-prepared = refl

-- x, b, and the constant 2
Vs : List ModelVariable
Vs = record { is_boolean = false; bounds = pos 1 to pos 3 } ∷ record { is_boolean = true; bounds = bit } ∷ record { is_boolean = false; bounds = pos 2 to pos 2 } ∷ []

flattens : Flattens F P 1 Vs
unfolding F P Vs numbered with_parts with_constants constants collected atoms_of known same_constant constant_bounds constant_clauses clauses_from with_numbers number_of index_of renamed shorter split_all split with_cut cut integer_arguments boolean_arguments bounds_in any within ◌≟◌
flattens = record {
  is_prepared = is-prepared;
  givens = (tt, (tt, tt));
  items = (tt, (((omega arith, refl), tt), tt));
  declared = ((tt, (omega arith, tt)), ((omega arith, tt), tt));
  typed = (((omega arith, (omega arith, tt)), tt), ((tt, ((omega arith, refl), tt)), tt));
  same_bounds = refl;
  bounds_fit = ((refl, refl), (tt, ((refl, refl), tt)));
  builtins_fit = ((omega arith, (omega arith, tt)), (((omega arith, (omega arith, tt)), (omega arith, tt)), tt));
}

carried : Carries (further P 1) (SatisfiesFlat F) (SatisfiesModel (model_of P 1 Vs))
carried = model_carries F P 1 Vs flattens
