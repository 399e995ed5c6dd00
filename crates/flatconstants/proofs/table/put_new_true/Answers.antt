use Rattle.std.proofs.Common.{arith, length, vec_len, ◌≡◌, ◌∙◌, sym, refl, true, false}
use Rattle.flatzinc.specs.declared.Atom.TheVariants.{Whole, Truth}
use Rattle.flatconstants.specs.Constants.{known, same_constant}
use Rattle.flatconstants.proofs.TableLaws.{found-none, found-more}
use Rattle.flatconstants.proofs.table.put_new_true.Goals as goal

pub returns-clause-indexed : goal.returns-clause-indexed
unfolding same_constant
returns-clause-indexed c =
    let xs = c.args.table.now.constants.items in
    let l : vec_len c.args.table.now.constants ≡ length xs = omega (arith, c.args.table.now.constants.ok.0) in
    let h = found-none xs (Truth true) c.requires.new in
    record {
      wholes = λ n. rw c.in_ok-push.ensures.items (c.requires.indexed.wholes n ∙ sym (found-more xs (Truth true) (Whole n) h));
      yes = rw (c.in_ok-push.ensures.items, c.len-place.ensures, l) (sym (found-more xs (Truth true) (Truth true) h));
      no = rw c.in_ok-push.ensures.items (c.requires.indexed.no ∙ sym (found-more xs (Truth true) (Truth false) h));
    }

pub returns-clause-constants : goal.returns-clause-constants
unfolding known
returns-clause-constants c = rw (c.in_ok-push.ensures.items, found-none _ _ c.requires.new) refl
