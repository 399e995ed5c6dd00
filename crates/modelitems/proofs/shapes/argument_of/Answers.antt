-- The table is the definition's lists, filled up. Past its ends no code has an argument.
use Rattle.std.proofs.Common.{ap, ◌∙◌, List, [], ℕ, get_or}
use Rattle.models.specs.Shape.{argument, shapes}
use Rattle.modelitems.specs.Argument.{table}
use Rattle.modelitems.proofs.Table.{rule, numbered}
use Rattle.modelitems.proofs.Places.{past-codes, past-arguments}
use Rattle.modelitems.proofs.shapes.argument_of.Goals.{else-code-le-LAST_CODE-via-then-code-le-LAST_CODE+else-k-lt-MOST_ARGUMENTS, else-code-le-LAST_CODE-via-else-code-le-LAST_CODE}
use Rattle.modelitems.proofs.shapes.argument_of.Goals as goal

pub returns-then-k-lt-MOST_ARGUMENTS : goal.returns-then-k-lt-MOST_ARGUMENTS
unfolding argument table
returns-then-k-lt-MOST_ARGUMENTS c =
    numbered c.args.shapes.now c.args.code c.args.k
    ∙ ap (λ (t : List (List ℕ)). get_or (get_or t c.args.code []) c.args.k 0) c.requires
    ∙ rule 3 shapes c.args.code c.args.k c.if-k-lt-MOST_ARGUMENTS.true

pub returns : goal.returns
returns c = elim c.else-code-le-LAST_CODE.branch [
  | else-code-le-LAST_CODE-via-then-code-le-LAST_CODE+else-k-lt-MOST_ARGUMENTS w ↦ past-arguments c.args.code c.args.k w.if-k-lt-MOST_ARGUMENTS.false
  | else-code-le-LAST_CODE-via-else-code-le-LAST_CODE w ↦ past-codes c.args.code c.args.k w.if-code-le-LAST_CODE.false
]
