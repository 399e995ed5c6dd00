-- The words are read to a list that has room for those of any model; where the text is accepted they are laid over the lent one.
use Rattle.std.proofs.Common.{ℕ, ◌≤◌, refl, sym, ap, ◌∙◌, length, replicate, arith}
use lib.ListN.{length-replicate}
use Rattle.integers.proofs.Places.{get_or-replicate_same}
use Rattle.std.proofs.lemmas.Result.{err_from_is_err_and}
use Rattle.words.specs.declared.fault.Fault.TheVariants as f
use Rattle.words.proofs.Written as Written
use Rattle.texts.proofs.Answers.{says-refused, at-fault, too_many, too_short, fits, words-read, lays-words}
use Rattle.texts.proofs.Front.{wrote}
use Rattle.texts.proofs.ModelWords.{words_of}
use Rattle.texts.proofs.ReadsRight.{right_of}
use Rattle.texts.proofs.read_within.Goals as goal

pub returns-in_err-n : goal.returns-in_err-n
returns-in_err-n g c =
    let p = err_from_is_err_and c.from_residual.result c.from_residual.ensures.1 in
    let s = says-refused c.args.text.now c.args.out.now _ _ (at-fault (length c.args.out.now) c.in_err-n.ensures) in
    rw (p.1, p.2) (record { answer = s.0; output = s.1; room = tt; front = tt; words = words_of c.args.text.now c.args.out.now s.0 s.1; right = right_of c.args.text.now c.args.out.now s.0 s.1 })

pub returns-then-n-gt-MODEL_WORDS : goal.returns-then-n-gt-MODEL_WORDS
returns-then-n-gt-MODEL_WORDS g c =
    let s = says-refused c.args.text.now c.args.out.now f.TooManyWords 0 (too_many (length c.args.out.now) c.in_ok-n.ensures c.if-n-gt-MODEL_WORDS.true) in
    record { answer = s.0; output = s.1; room = tt; front = tt; words = words_of c.args.text.now c.args.out.now s.0 s.1; right = right_of c.args.text.now c.args.out.now s.0 s.1 }

pub returns-then-out-n : goal.returns-then-out-n
returns-then-out-n g c =
    let s = says-refused c.args.text.now c.args.out.now f.OutputTooShort 0 (too_short (length c.args.out.now) c.in_ok-n.ensures c.if-n-gt-MODEL_WORDS.false c.if-out-n.true) in
    record { answer = s.0; output = s.1; room = tt; front = tt; words = words_of c.args.text.now c.args.out.now s.0 s.1; right = right_of c.args.text.now c.args.out.now s.0 s.1 }

pub returns : goal.returns
returns g c =
    let s = lays-words c.args.out.now c.in_ok-n.ensures (rw (length-replicate {A = ℕ} g.row.WORDS 0) (omega (arith, c.in_ok-n.ensures.few, c.if-n-gt-MODEL_WORDS.false, c.requires.words.0))) c.lay.ensures (fits (length c.args.out.now) c.in_ok-n.ensures c.if-n-gt-MODEL_WORDS.false c.if-out-n.false) in
    let w = wrote c.args.text.now c.args.out.now s.0 s.1 in
    record { answer = s.0; output = s.1; room = Written.fits w; front = Written.front w; words = words_of c.args.text.now c.args.out.now s.0 s.1; right = right_of c.args.text.now c.args.out.now s.0 s.1 }

pub over-symbols-requires : goal.over-symbols-requires
over-symbols-requires g c = record {
  room = record { few = rw (length-replicate {A = ℕ} g.row.NAMES 0) c.requires.names.0; size = rw (length-replicate {A = ℕ} g.row.LINKS 0, length-replicate {A = ℕ} g.row.NAMES 0) c.requires.names.1 };
  size = refl;
  clear = λ i. get_or-replicate_same {A = ℕ} g.row.LINKS i 0;
}

pub whole_as_slice-written : goal.whole_as_slice-written
whole_as_slice-written g c = omega (arith, c.requires.words.1)

pub read_tokens-requires : goal.read_tokens-requires
read_tokens-requires g c = record { index = c.over-symbols.ensures.index c.args.text.now; none = (c.over-symbols.ensures.none, refl) }

pub slice_bounds-lay-end : goal.slice_bounds-lay-end
slice_bounds-lay-end g c =
    let h : c.in_ok-n.n ≤ length (replicate {A = ℕ} g.row.WORDS 0) = rw (length-replicate {A = ℕ} g.row.WORDS 0) (omega (arith, c.in_ok-n.ensures.few, c.if-n-gt-MODEL_WORDS.false, c.requires.words.0)) in
    c.in_ok-n.ensures.words.0 ∙ sym (ap length (words-read c.in_ok-n.ensures h))
