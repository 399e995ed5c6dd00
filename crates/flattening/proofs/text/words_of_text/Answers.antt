use Rattle.std.proofs.Common.{ap, ◌∙◌, ℕ}
use Rattle.std.specs.Prelude.{Result, Ok, Err, IfOk, Vec, option_and_then}
use Rattle.std.specs.declared.alloc.Global.{Global}
use Rattle.flatzinc.specs.Seen.{flatzinc}
use Rattle.flatnames.specs.Seen.{aim_of}
use Rattle.flatnames.specs.Step.{finished, resolved}
use Rattle.flattening.specs.Promise.{Promise}
use Rattle.flattening.specs.CarriedOver.{CarriedOver}
use Rattle.flattening.proofs.text.words_of_text.Goals as goal

if_ok_by : {T E : Type 0} (P Q : T → Type 0) → ((x : T) → P x → Q x) → (r : Result T E) → IfOk r P → IfOk r Q
if_ok_by P Q by (Ok x) h = by x h
if_ok_by P Q by (Err e) h = tt

pub returns : goal.returns
unfolding resolved
returns c =
    if_ok_by (λ (ws : Vec ℕ Global). Promise (flatzinc c.in_ok-all.all) ws.items) (λ (ws : Vec ℕ Global). CarriedOver c.args.bytes.now ws.items)
    (λ ws h. record {
      statements = c.in_ok-state.ensures.0;
      are_read = c.in_ok-state.ensures.1;
      say = record { flatzinc = flatzinc c.in_ok-all.all; aim = aim_of c.in_ok-all.field-0-1 };
      are_resolved = ap (option_and_then finished) c.in_ok-state.ensures.2 ∙ c.in_ok-all.ensures;
      promise = h;
    })
    c.carried.result c.carried.ensures
