-- Numbers put after others, and none put.
use Rattle.std.proofs.Common.{refl, ◌∙◌, List, [], ◌++◌, ℤ}
use Rattle.words.proofs.LaidThen.{laid_then, laid_none}
use Rattle.picking.specs.Output.{Puts}
use Rattle.picking.specs.declared.Output.{Output}

pub then_puts : {p q r : Output} {xs ys : List ℤ} → Puts p xs q → Puts q ys r → Puts p (xs ++ ys) r
then_puts v w = record { laid = laid_then v.laid w.laid; same_list = w.same_list ∙ v.same_list }

pub puts_none : {p : Output} → Puts p [] p
puts_none = record { laid = laid_none; same_list = refl }

pub ruleset puts = (then_puts, puts_none)
