use Rattle.std.proofs.Common.{refl, arith}
use Rattle.std.proofs.lemmas.List.{get_or_default}
use Rattle.flatwords.specs.SystemWords.{variable_words, all_variable_words}
use Rattle.flatwords.proofs.Walks as w
use Rattle.flatwords.proofs.put_variables.Goals as goal

pub loop-v-preserved : goal.loop-v-preserved
unfolding all_variable_words
loop-v-preserved c =
    w.step (λ v. variable_words v.is_boolean v.bounds) all_variable_words refl (λ v vs. refl) c.args.variables.now c.loop-v.v-index _ c.loop-v.out.items c.put_declared.new.out.items _ (omega arith)
    (get_or_default c.args.variables.now c.loop-v.v-index _ _ (omega arith)) c.loop-v.invariant c.in_ok-put_declared.ensures

pub returns : goal.returns
unfolding all_variable_words
returns c = w.end (λ v. variable_words v.is_boolean v.bounds) all_variable_words refl (λ v vs. refl) c.args.variables.now c.loop-v.v-index c.loop-v.out.items _ (omega arith) c.loop-v.invariant
