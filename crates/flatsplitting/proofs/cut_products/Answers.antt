use Rattle.std.proofs.Common.{◌≡◌, ap, ◌∙◌, map, Some}
use Rattle.flatzinc.specs.Calls.{terms_of}
use Rattle.flatsplitting.specs.Added.{term, product, product_term}
use Rattle.flatsplitting.proofs.Added as a
use Rattle.flatsplitting.proofs.cut_products.Goals as goal

pub returns : goal.returns
returns c =
    let e : map term c.in_ok-terms.terms.items ≡ map product_term c.args.products.now = ap (map term) c.in_ok-terms.ensures ∙ a.terms-weighted c.args.products.now in
    let h = rw e at c.in_ok-rest.ensures in
    (h.0, ap terms_of (c.in_ok-products_of.ensures ∙ ap (map product) c.deref.ensures.value) ∙ a.terms-back c.in_ok-rest.rest.items ∙ ap Some h.1)
