use Rattle.std.proofs.Common.{◌≡◌, ap, ◌∙◌, List, [], ◌∷◌, ◌++◌, append_assoc, ℕ}
use Rattle.flatwords.specs.SystemWords.{all_variable_words, words_of}
use Rattle.flatwords.specs.CallWords.{all_call_words}
use Rattle.flatwords.proofs.CallWords.{calls-are}
use Rattle.flatwords.proofs.model_words.Goals as goal

whole : (V C o₁ o₂ o₃ o₄ : List ℕ) (w : ℕ) → o₁ ≡ [] → o₂ ≡ o₁ ++ V → o₃ ≡ o₂ ++ C → o₄ ≡ o₃ ++ w ∷ [] → o₄ ≡ V ++ (C ++ w ∷ [])
whole V C o₁ o₂ o₃ o₄ w e₁ e₂ e₃ e₄ =
    e₄ ∙ ap (λ l. l ++ w ∷ []) (e₃ ∙ ap (λ l. l ++ C) (e₂ ∙ ap (λ l. l ++ V) e₁)) ∙ append_assoc V C (w ∷ [])

pub returns : goal.returns
unfolding words_of
returns c bs e =
    let V = all_variable_words c.args.variables.now in
    let C = all_call_words c.args.calls.now in
    let out = whole V C c.new-out.result.items c.put_variables.new.out.items c.put_calls.new.out.items c.push.new.self.items c.bits.result
    c.new-out.ensures.items c.in_ok-put_variables.ensures c.in_ok-put_calls.ensures c.in_ok-push.ensures.items in
    out ∙ ap (λ (w : ℕ). V ++ (C ++ w ∷ [])) (c.bits.ensures ∙ c.new.ensures) ∙ ap (λ l. V ++ l) (calls-are c.args.calls.now bs e)
