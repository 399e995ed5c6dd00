-- What the command says: on standard output, on standard error, and by its exit status.
use Rattle.std.specs.Prelude.{◌≡◌, List, [], ℕ}
use Rattle.answers.specs.declared.Answer.{Answer}

pub record Said : Type 0 where
  pub out : List ℕ
  pub err : List ℕ
  pub status : ℕ

-- on standard output, on standard error
abbrev pub printed_said : List ℕ → ℕ → Said
printed_said text n = record { out = text; err = []; status = n }

abbrev pub complained_said : List ℕ → ℕ → Said
complained_said text n = record { out = []; err = text; status = n }

-- an answer says this
abbrev pub Says : Said → Answer → Type 0
Says s a = (a.out.items ≡ s.out) × (a.err.items ≡ s.err) × (a.status ≡ s.status)
