use Rattle.std.proofs.Common.{refl}
use Rattle.flattening.proofs.Carrying.{promise-of}
use Rattle.flattening.proofs.carry.carried.Goals as goal

pub returns : goal.returns
returns c =
    promise-of _ c.in_ok-variables.field-0 c.in_ok-variables.ensures c.in_ok-model.model
    c.in_ok-model.ensures
    (λ bs h. rw (← c.deref.ensures.value) ((c.if-not-fits.ensures bs (rw (c.deref-2.ensures.value) h)).0 refl))
    c.in_ok-model_words.field-0.items
    (λ bs h. rw (← c.deref-3.ensures.value) (c.in_ok-model_words.ensures bs (rw (c.deref-4.ensures.value) h)))
