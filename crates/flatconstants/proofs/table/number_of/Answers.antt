use Rattle.std.proofs.Common.{◌≡◌, ◌∙◌, refl, ap, ℕ, ◌+◌, arith, length, vec_len}
use Rattle.flatconstants.specs.Constants.{number_of, index_of}
use Rattle.flatconstants.proofs.TableLaws.{unwrap-found, index-most}
use Rattle.flatconstants.proofs.table.number_of.Goals as goal

at_whole : (c : goal.After-unwrap_or) → c.unwrap_or.result ≡ index_of c.args.atom c.args.table.now.constants.items
at_whole c = let l : vec_len c.args.table.now.constants ≡ length c.args.table.now.constants.items = omega (arith, c.args.table.now.constants.ok.0) in c.unwrap_or.ensures ∙ rw (c.place_of.ensures, c.len.ensures, l) (unwrap-found c.args.atom c.args.table.now.constants.items)

at_truth : (c : goal.After-unwrap_or-in-Truth) → c.unwrap_or-in-Truth.result ≡ index_of c.args.atom c.args.table.now.constants.items
at_truth c = let l : vec_len c.args.table.now.constants ≡ length c.args.table.now.constants.items = omega (arith, c.args.table.now.constants.ok.0) in c.unwrap_or-in-Truth.ensures ∙ rw (c.place_of-in-Truth.ensures, c.len-in-Truth.ensures, l) (unwrap-found c.args.atom c.args.table.now.constants.items)

pub overflow_add-result : goal.overflow_add-result
overflow_add-result c = omega (arith, at_whole c, index-most c.args.atom c.args.table.now.constants.items, c.requires.room)

pub overflow_add-result-in-Truth : goal.overflow_add-result-in-Truth
overflow_add-result-in-Truth c = omega (arith, at_truth c, index-most c.args.atom c.args.table.now.constants.items, c.requires.room)

pub returns-in-Whole : goal.returns-in-Whole
unfolding number_of
returns-in-Whole c = ap (λ (k : ℕ). c.args.others + k) (at_whole c) ∙ rw c.in-Whole.is refl

pub returns-in-Truth : goal.returns-in-Truth
unfolding number_of
returns-in-Truth c = ap (λ (k : ℕ). c.args.others + k) (at_truth c) ∙ rw c.in-Truth.is refl
