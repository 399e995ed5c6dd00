-- The end is met as a token, which opens no list.
use Rattle.std.proofs.Common.{◌≡◌, List, ℕ, ap, sym}
use Rattle.words.specs.Refusal.{accepted}
use Rattle.words.proofs.Faulty.{fault-refuses}
use Rattle.grammar.specs.Grammar.{TokenStep}
use Rattle.grammar.specs.Machine.{due_of, GivesStep}
use Rattle.grammar.specs.declared.due.Step.{Step}
use Rattle.grammar.specs.declared.due.Step.TheVariants as s
use Rattle.grammar.proofs.End.{last, at_end, no_list}
use Rattle.grammar.proofs.check_end.Goals as goal

-- no step at the end has a fault and is one
fits : (step : TokenStep) (bs : List ℕ) (s : Step) → GivesStep step bs (last bs) s → step.fault ≡ 0
fits step bs (s.Single word next) h = ap (λ x. x.fault) h.0
fits step bs (s.Opens l) h = absurd (no_list l.bracketed h.0)

pub returns-in-Ok : goal.returns-in-Ok
returns-in-Ok c = rw (← at_end c.args.text.now (due_of c.args.due), fits _ c.args.text.now _ c.in-Ok.ensures)

pub returns-in-Err : goal.returns-in-Err
returns-in-Err c = rw (← at_end c.args.text.now (due_of c.args.due), c.in-Err.ensures) (sym (fault-refuses c.in-Err.fault _ accepted))
