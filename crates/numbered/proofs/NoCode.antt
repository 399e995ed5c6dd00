-- The block of a number that no builtin has is that of int_eq(0,0), which chooses by no variable and has no sum.
use Rattle.std.proofs.Common.{◌≡◌, refl, sym, ap, ◌∙◌, Bool, List, [], ℕ}
use Rattle.integers.specs.Bounds.{bounds_in}
use Rattle.integers.specs.Lists.{any}
use Rattle.integers.specs.declared.Bounds.{Bounds}
use Rattle.words.specs.Word.{word_at, payload}
use Rattle.models.specs.Model.{var, builtin, builtins}
use Rattle.models.proofs.AllCodes.{Unknown, no_builtin}
use Rattle.rules.specs.Rule.{rule}
use Rattle.rules.specs.Shared.{Encoded}
use Rattle.rules.specs.Translation.{block_of}
use Rattle.encodings.specs.Uses.{choosing}
use Rattle.encodings.specs.declared.context.Context.{Context}
use Rattle.encodings.proofs.Record.{no-choosing}
use Rattle.linearsums.specs.Sum.{form_of, Fits}
use Rattle.blocks.specs.Coded.{constraint_of, has_all}
use Rattle.blocks.proofs.OneBlock.{over_none, wide_by}
use Rattle.numbered.specs.Blocks.{LayableNumber}

pub same-block : (β : ℕ → Bounds) (s : ℕ → Bool) (e : Encoded) (code : ℕ) (args : List ℕ) → Unknown code → block_of β s e (constraint_of 1 []) ≡ block_of β s e (constraint_of code args)
unfolding builtin builtins choosing var word_at payload
same-block β s e code args h =
    over_none β s e 1 [] refl ∙ ap (rule β) (sym (no_builtin code args h)) ∙ sym (over_none β s e code args (no-choosing code h))

pub none-layable : (k : Context) {S : Bounds} → Fits S → LayableNumber k 1 [] S
unfolding has_all choosing form_of any
none-layable k f = (wide_by (bounds_in k.domains.now) _ (constraint_of 1 []), record { fits = f; is = λ n. absurd (n refl) })
