-- "Holds" is said exactly where every constraint is true.
use Rattle.std.proofs.Common.{◌≡◌, false, refl, sym, ap, ◌∙◌}
use Rattle.words.specs.Answer.{is_holds}
use Rattle.words.specs.Faults.{said_of}
use Rattle.words.specs.declared.answer.Verdict.{Verdict}
use Rattle.words.specs.declared.answer.Verdict.TheVariants.{Holds, OutOfBounds, False}
use Rattle.solutions.specs.Solutions.{every_true}
use Rattle.solutions.proofs.Through.{holds-all}
use Rattle.solutions.proofs.Search.all_true.Goals as goal

not-holds : (v : Verdict) → (v ≡ Holds → ⊥) → is_holds (said_of v) ≡ false
unfolding is_holds
not-holds Holds n = absurd (n refl)
not-holds (OutOfBounds i) n = refl
not-holds (False i) n = refl

pub returns-in-Holds : goal.returns-in-Holds
unfolding every_true is_holds
returns-in-Holds c = ap is_holds (rw c.in-Holds.is at c.first_false.ensures) ∙ holds-all _ 0 _

pub returns-in_default : goal.returns-in_default
unfolding every_true
returns-in_default c = sym (not-holds _ c.in_default.not-Holds) ∙ ap is_holds c.first_false.ensures ∙ holds-all _ 0 _
