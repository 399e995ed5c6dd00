-- The front of the list of values that is lent has as many places as there are variables.
use Rattle.std.proofs.Common.{sym, ap, ◌∙◌, arith, ℕ, length, length-take-le}
use mathlib.Core.List.{flatten}
use Rattle.words.specs.Overlay.{overlay}
use Rattle.solutions.specs.Walk.{solutions_in}
use Rattle.solutions.proofs.All.{sized_as}
use Rattle.solutions.proofs.Search.write_in.Goals as goal

pub write_all-requires : goal.write_all-requires
write_all-requires c =
    sized_as (sym (length-take-le _ _ (omega (arith, c.requires.short)))) c.requires

pub returns : goal.returns
returns c =
    record {
      count = c.write_all.ensures.count ∙ ap (λ (k : ℕ). length (solutions_in c.args.self.now.ws.now c.args.self.now.domains.now k)) (length-take-le (length c.args.self.now.domains.now) _ (omega (arith, c.requires.short)));
      output = c.write_all.ensures.output
          ∙ ap (λ (k : ℕ). overlay c.args.out.now 0 (flatten (solutions_in c.args.self.now.ws.now c.args.self.now.domains.now k))) (length-take-le (length c.args.self.now.domains.now) _ (omega (arith, c.requires.short)));
    }

pub slice_bounds-write_all-end : goal.slice_bounds-write_all-end
slice_bounds-write_all-end c = sym (length-take-le _ _ (omega (arith, c.requires.short)))
