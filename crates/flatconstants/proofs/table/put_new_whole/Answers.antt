use Rattle.std.proofs.Common.{arith, length, vec_len, ◌≡◌, ◌∙◌, sym, refl, true, false, to_z-of_z}
use Rattle.flatzinc.specs.declared.Atom.TheVariants.{Whole, Truth}
use Rattle.flatconstants.specs.Constants.{known, same_constant}
use Rattle.flatconstants.proofs.TableLaws.{found-none, found-more}
use Rattle.flatconstants.proofs.table.put_new_whole.Goals as goal

pub returns-clause-indexed : goal.returns-clause-indexed
unfolding same_constant
returns-clause-indexed c =
    let xs = c.args.table.now.constants.items in
    let l : vec_len c.args.table.now.constants ≡ length xs = omega (arith, c.args.table.now.constants.ok.0) in
    let h = found-none xs (Whole c.args.number) c.requires.new in
    record {
      wholes = λ n. rw c.in_ok-push.ensures.items (c.in_ok-put_place.ensures n ∙ rw (to_z-of_z c.ranges.number, c.len-place.ensures, l, c.requires.indexed.wholes n) (sym (found-more xs (Whole c.args.number) (Whole n) h)));
      no = rw (c.in_ok-push.ensures.items, to_z-of_z c.ranges.number) (c.requires.indexed.no ∙ sym (found-more xs (Whole c.args.number) (Truth false) h));
      yes = rw (c.in_ok-push.ensures.items, to_z-of_z c.ranges.number) (c.requires.indexed.yes ∙ sym (found-more xs (Whole c.args.number) (Truth true) h));
    }

pub returns-clause-constants : goal.returns-clause-constants
unfolding known
returns-clause-constants c = rw (c.in_ok-push.ensures.items, to_z-of_z c.ranges.number, found-none _ _ c.requires.new) refl
