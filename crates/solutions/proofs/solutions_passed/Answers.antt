-- The bounds of a model that passes decide between fault 22 and the lists.
use Rattle.std.proofs.Common.{◌≤◌, arith, length}
use Rattle.words.specs.Variables.{variables}
use Rattle.modelreading.proofs.Heads.{front-heads}
use Rattle.solutions.specs.Lists.{list_count}
use Rattle.solutions.proofs.All.{has-taken, gives-too_many_variables, gives-too_many_lists, front-list, sized}
use Rattle.solutions.proofs.solutions_passed.Goals as goal

pub returns-then-n-gt-LISTED_VARIABLES : goal.returns-then-n-gt-LISTED_VARIABLES
returns-then-n-gt-LISTED_VARIABLES c =
    let h = gives-too_many_variables c.args.read.now.ws.now c.requires.0 c.args.out.now (omega (arith, c.requires.1.0.seen.variables_counted, c.if-n-gt-LISTED_VARIABLES.true)) in
    record { answer = h.0; output = h.1 }

pub invariant_of-search : goal.invariant_of-search
invariant_of-search c = record { read = front-heads _ c.requires.1.0.seen.heads (has-taken _ _ (omega arith)) }

pub returns-then-lists-gt-LISTED_LISTS : goal.returns-then-lists-gt-LISTED_LISTS
returns-then-lists-gt-LISTED_LISTS c =
    let room : c.args.read.now.model.variables ≤ length c.args.read.now.domains = has-taken _ _ (omega arith) in
    let same = front-list c.args.read.now.ws.now c.requires.0 c.requires.1.0 room in
    let h = gives-too_many_lists c.args.read.now.ws.now c.requires.0 c.args.out.now (omega (arith, rw same at c.list_count-lists.ensures, c.if-lists-gt-LISTED_LISTS.true)) in
    record { answer = h.0; output = h.1 }

pub list_solutions-requires : goal.list_solutions-requires
list_solutions-requires c =
    let room : c.args.read.now.model.variables ≤ length c.args.read.now.domains = has-taken _ _ (omega arith) in
    let same = front-list c.args.read.now.ws.now c.requires.0 c.requires.1.0 room in
    let lists = c.list_count-lists.ensures in
    let few : list_count (variables c.args.read.now.ws.now) ≤ 65536 = omega (arith, rw same at lists, c.if-lists-gt-LISTED_LISTS.false) in
    (sized c.args.read.now.ws.now c.requires.0 c.requires.1.0 room c.if-n-gt-LISTED_VARIABLES.false few, omega (arith, lists, c.if-lists-gt-LISTED_LISTS.false), c.requires.0, same)
