-- An argument by its number, by the forms of the builtin. For `argument`.
use Rattle.std.proofs.Common.{◌≡◌, refl, sym, ap, ◌∙◌, List, [], ◌∷◌, map, ℕ, zero, suc, ◌<◌, ◌≤◌, arith, length, get_or, ltb, ltb-true, ltb-false, Option, Some, None, Bor}
use Rattle.std.specs.Option.{is_some, option_copied, IfSome}
use Rattle.grammar.specs.Form as Form
use Rattle.grammar.specs.Machine.{text_form, form_or_missing}
use Rattle.grammar.specs.declared.form.Form.{Form}

some : (xs : List Form) (k : ℕ) (d : Form) → k < length xs → get_or (map text_form xs) k Form.Missing ≡ text_form (get_or xs k d)
some [] k d l = absurd (omega arith)
some (x ∷ xs) zero d l = refl
some (x ∷ xs) (suc k) d l = some xs k d (omega arith)

none : (xs : List Form) (k : ℕ) → length xs ≤ k → get_or (map text_form xs) k Form.Missing ≡ Form.Missing
none [] k l = refl
none (x ∷ xs) zero l = absurd (omega arith)
none (x ∷ xs) (suc k) l = none xs k (omega arith)

pub looked_up : (xs : List Form) (k : ℕ) (r : Option (Bor Form)) → is_some r ≡ ltb k (length xs) → IfSome r (λ x. x.now ≡ get_or xs k x.now) → form_or_missing (option_copied r) ≡ get_or (map text_form xs) k Form.Missing
looked_up xs k None s f = sym (none xs k (ltb-false k (length xs) (sym s)))
looked_up xs k (Some x) s f = ap text_form f ∙ sym (some xs k x.now (ltb-true k (length xs) (sym s)))
