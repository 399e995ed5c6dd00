use Rattle.std.proofs.Common.{◌∙◌, sym, refl, false, List}
use Rattle.integers.specs.Lists.{all}
use Rattle.flatzinc.specs.declared.Product.{Product}
use Rattle.flatzinc.specs.Calls.{atoms_in}
use Rattle.flatconstants.specs.Typed.{is_typed}
use Rattle.flatconstants.proofs.Alls.{keeps, breaks, ends}
use Rattle.flatconstants.proofs.typed.are_terms.Goals as goal

pub returns-then-not-is_typed : goal.returns-then-not-is_typed
unfolding all
returns-then-not-is_typed c =
    sym (breaks (λ (p : Product). is_typed c.args.variables.now false p.atom) (λ (ps : List Product). all (is_typed c.args.variables.now false) (atoms_in ps)) refl (λ x xs. refl) c.args.products.now c.loop-product.product-index _ c.loop-product-test.true (sym c.is_typed.ensures ∙ c.if-not-is_typed.true)) ∙ c.loop-product.invariant

pub loop-product-preserved : goal.loop-product-preserved
unfolding all
loop-product-preserved c =
    sym (keeps (λ (p : Product). is_typed c.args.variables.now false p.atom) (λ (ps : List Product). all (is_typed c.args.variables.now false) (atoms_in ps)) refl (λ x xs. refl) c.args.products.now c.loop-product.product-index _ c.loop-product-test.true (sym c.is_typed.ensures ∙ c.if-not-is_typed.false)) ∙ c.loop-product.invariant

pub returns : goal.returns
unfolding all
returns c = sym (ends (λ (p : Product). is_typed c.args.variables.now false p.atom) (λ (ps : List Product). all (is_typed c.args.variables.now false) (atoms_in ps)) refl (λ x xs. refl) c.args.products.now c.loop-product.product-index c.loop-product-test.false) ∙ c.loop-product.invariant
