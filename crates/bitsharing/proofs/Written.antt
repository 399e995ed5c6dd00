-- The words that were written share the solutions of the row system, and of the model that translate wrote it for.
use Rattle.std.proofs.Common.{◌≡◌, sym, ap, ◌∙◌, subst, List, ℕ, length}
use mathlib.Core.Path.{fun_ext}
use Rattle.words.specs.Answer.{Answer}
use Rattle.bitforms.specs.FormAnswer.{bit_form, bit_formed}
use Rattle.bitforms.proofs.Theorem.{form_of}
use Rattle.bitforms.proofs.Written.{says-form, written-shares}
use Rattle.bitsharing.specs.ModelSolutions.{ModelSolutions}
use Rattle.bitsharing.specs.FormShares.{FormShares}
use Rattle.bitsharing.proofs.Theorem.{model-solutions}

pub shares : (ws out : List ℕ) → FormShares ws (bit_form ws (length out)) (bit_formed ws out)
shares ws out n e = (
  written-shares ws out n e,
  λ model passes system.
      subst (ModelSolutions model) (fun_ext (λ bs. ap (λ us. form_of us bs) (sym system) ∙ sym (says-form ws out n e bs))) (model-solutions model passes),
)

-- of an answer and an output that are the definitions'
pub shares_of : (ws before : List ℕ) {after : List ℕ} {answer : Answer} → answer ≡ bit_form ws (length before) → after ≡ bit_formed ws before → FormShares ws answer after
shares_of ws before e f = rw (e, f) (shares ws before)
