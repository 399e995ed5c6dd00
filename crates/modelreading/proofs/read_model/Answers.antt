-- Too many words are the first fault.
use Rattle.std.proofs.Common.{Err}
use Rattle.words.specs.declared.fault.Fault.TheVariants.{TooManyWords}
use Rattle.modelreading.proofs.Loop.{kept, too_long}
use Rattle.modelreading.proofs.read_model.Goals as goal

pub returns-then-ws-gt-MODEL_WORDS : goal.returns-then-ws-gt-MODEL_WORDS
returns-then-ws-gt-MODEL_WORDS c = kept (Err (record { fault = TooManyWords; place = 0 })) (too_long _ c.if-ws-gt-MODEL_WORDS.true)
