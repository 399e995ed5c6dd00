use Rattle.std.proofs.Common.{ap, Some, ◌≡◌, ◌∙◌, sym, refl, ap₂, arith, ℕ, List, map, length, vec_len}
use Rattle.std.proofs.lemmas.List.{length-map}
use Rattle.flatzinc.specs.declared.ModelVariable.{ModelVariable}
use Rattle.integers.specs.Lists.{all}
use Rattle.flatzinc.specs.declared.Atom.{Atom}
use Rattle.flatconstants.specs.Numbers.{is_declared}
use Rattle.flatzinc.specs.Calls.{built_all}
use Rattle.flatconstants.specs.Constants.{constants, with_constants, with_numbers}
use Rattle.flatconstants.specs.Numbered.{numbered}
use Rattle.flatconstants.proofs.BuiltLaws.{same-atoms}
use Rattle.flatconstants.proofs.ShortLaws.{shorter-all}
use Rattle.flatconstants.proofs.number.number.Goals as goal

pub returns-clause-numbered : goal.returns-clause-numbered
unfolding constants with_constants numbered built_all
returns-clause-numbered c = λ ps h.
    let t : c.in_ok-table.table.constants.items ≡ constants ps = c.in_ok-table.ensures.constants ∙ rw (c.deref-2.ensures.value, c.in_ok-atoms.ensures, same-atoms c.args.calls.now ps h) refl in
    let l : vec_len c.args.variables ≡ length c.args.variables.items = omega (arith, c.args.variables.ok.0) in
    let m : length (map (λ (v : ModelVariable). v.bounds) c.args.variables.items) ≡ length c.args.variables.items = length-map c.args.variables.items (λ (v : ModelVariable). v.bounds) in (
      c.in_ok-put_variables.ensures ∙ rw (c.deref-3.ensures.value, t) refl,
      c.in_ok-put_numbered.ensures ps h ∙ rw (c.in_ok-put_constants.ensures, c.new-numbered.ensures.items, c.deref-4.ensures.value, t, c.len-others.ensures, l, m) (ap Some (sym (shorter-all (length c.args.variables.items) (constants ps) (with_numbers (length c.args.variables.items) (constants ps)) ps))),
    )

pub returns-clause-declared : goal.returns-clause-declared
returns-clause-declared c =
    let l : vec_len c.args.variables ≡ length c.args.variables.items = omega (arith, c.args.variables.ok.0) in
    ap₂ (λ (n : ℕ) (xs : List Atom). all (is_declared n) xs) (sym (c.len-others.ensures ∙ l)) (sym (c.deref.ensures.value ∙ c.in_ok-atoms.ensures)) ∙ sym c.are_declared.ensures ∙ c.if-not-are_declared.false
