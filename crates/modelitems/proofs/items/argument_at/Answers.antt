-- One word, or a length word and its list.
use Rattle.std.proofs.Common.{◌≡◌, refl, ⊎_elim, ◌+◌, ◌<◌, ◌≤◌, arith, [], ℕ, map}
use Rattle.std.proofs.lemmas.Result.{err_from_is_err_and}
use Rattle.models.specs.Shape.{argument}
use Rattle.models.specs.Shapes.{shape_number}
use Rattle.models.specs.Reading.{after_argument}
use Rattle.models.specs.declared.Due.TheVariants.{Arguments}
use Rattle.modelitems.specs.Onward.{StepsTo, arguments_from}
use Rattle.modelitems.proofs.Onward.{any-type}
use Rattle.modelitems.proofs.Steps.{and_then, or-refused, to-alike}
use Rattle.modelitems.proofs.Inner.{one_variable, one_number, one-exponent}
use Rattle.modelitems.proofs.items.argument_at.Goals.{In_ok-past_length-in-Parallel}
use Rattle.modelitems.proofs.items.argument_at.Goals as goal

pub returns-in-Integer : goal.returns-in-Integer
returns-in-Integer c d code k e =
    let s : (1 ≤ shape_number c.args.argument) × (shape_number c.args.argument < 3) = ⊎_elim (λ i. rw i (omega arith, omega arith)) (λ i. rw i (omega arith, omega arith)) c.in-Integer.is in
    rw (c.over.ensures, c.check_variable.ensures, c.at-w.ensures) (one_variable c.args.ws.now (map shape_number c.args.types.now) d c.args.at c.requires.within _ code k e s.0 s.1)

pub returns-in-Number : goal.returns-in-Number
returns-in-Number c d code k e =
    rw (c.over-in-Number.ensures, c.check_number.ensures, c.at-w.ensures)
    (one_number c.args.ws.now (map shape_number c.args.types.now) d c.args.at c.requires.within _ code k e (rw c.in-Number.is refl))

pub returns-in-Exponent : goal.returns-in-Exponent
returns-in-Exponent c d code k e =
    rw (c.over-in-Exponent.ensures, c.check_count.ensures, c.at-w.ensures)
    (one-exponent c.args.ws.now (map shape_number c.args.types.now) d c.args.at c.requires.within _ code k e (rw c.in-Exponent.is refl))

pub returns-in_err-past_length-in-Numbers : goal.returns-in_err-past_length-in-Numbers
returns-in_err-past_length-in-Numbers c d code k e =
    let p = err_from_is_err_and c.from_residual.result c.from_residual.ensures.1 in
    rw (p.1, p.2) (or-refused (c.in_err-past_length-in-Numbers.ensures.read (map shape_number c.args.types.now) d _ code k e (rw c.in-Numbers.is (omega arith))) _ refl)

pub returns-in_ok-past_length-in-Numbers : goal.returns-in_ok-past_length-in-Numbers
unfolding after_argument
returns-in_ok-past_length-in-Numbers c d code k e =
    let ts = map shape_number c.args.types.now in
    let l = rw (← c.at-w.ensures, ← c.payload.ensures) at (c.in_ok-past_length-in-Numbers.ensures.read ts d 5 code k (rw c.in-Numbers.is at e) (omega arith)) in
    and_then l refl (c.numbers_at.ensures ts d 0 0 code (k + 1))

pub returns-in_err-past_length-in-Integers : goal.returns-in_err-past_length-in-Integers
returns-in_err-past_length-in-Integers c d code k e =
    let p = err_from_is_err_and c.from_residual-in_err-past_length-in-Integers.result c.from_residual-in_err-past_length-in-Integers.ensures.1 in
    rw (p.1, p.2) (or-refused (c.in_err-past_length-in-Integers.ensures.read (map shape_number c.args.types.now) d _ code k e (rw c.in-Integers.is (omega arith))) _ refl)

pub returns-in_ok-past_length-in-Integers : goal.returns-in_ok-past_length-in-Integers
unfolding after_argument
returns-in_ok-past_length-in-Integers c d code k e =
    let l = rw (← c.at-w.ensures, ← c.payload-in-Integers.ensures) at (c.in_ok-past_length-in-Integers.ensures.read (map shape_number c.args.types.now) d 6 code k (rw c.in-Integers.is at e) (omega arith)) in
    and_then l refl (to-alike (c.variables_at.ensures d code (k + 1)) (any-type _ _ 1 code (k + 1) d _))

pub returns-in_err-past_length-in-Booleans : goal.returns-in_err-past_length-in-Booleans
returns-in_err-past_length-in-Booleans c d code k e =
    let p = err_from_is_err_and c.from_residual-in_err-past_length-in-Booleans.result c.from_residual-in_err-past_length-in-Booleans.ensures.1 in
    rw (p.1, p.2) (or-refused (c.in_err-past_length-in-Booleans.ensures.read (map shape_number c.args.types.now) d _ code k e (rw c.in-Booleans.is (omega arith))) _ refl)

pub returns-in_ok-past_length-in-Booleans : goal.returns-in_ok-past_length-in-Booleans
unfolding after_argument
returns-in_ok-past_length-in-Booleans c d code k e =
    let l = rw (← c.at-w.ensures, ← c.payload-in-Booleans.ensures) at (c.in_ok-past_length-in-Booleans.ensures.read (map shape_number c.args.types.now) d 7 code k (rw c.in-Booleans.is at e) (omega arith)) in
    and_then l refl (to-alike (c.variables_at-in-Booleans.ensures d code (k + 1)) (any-type _ _ 2 code (k + 1) d _))

pub returns-in_err-past_length-in-Parallel : goal.returns-in_err-past_length-in-Parallel
returns-in_err-past_length-in-Parallel c d code k e =
    let p = err_from_is_err_and c.from_residual-in_err-past_length-in-Parallel.result c.from_residual-in_err-past_length-in-Parallel.ensures.1 in
    rw (p.1, p.2) (or-refused (c.in_err-past_length-in-Parallel.ensures.read (map shape_number c.args.types.now) d _ code k e (rw c.in-Parallel.is (omega arith))) _ refl)

-- the length word of parallel lists, and their numbers
both : (c : In_ok-past_length-in-Parallel) (d code k : ℕ) → shape_number c.args.argument ≡ argument code k →
    StepsTo c.args.ws.now (map shape_number c.args.types.now) d (arguments_from code k) c.args.at (Arguments c.payload-n.result c.payload-n.result 1 code (k + 1)) (record { number = 0; at = c.in_ok-past_length-in-Parallel.field-0 })
unfolding after_argument
both c d code k e =
    rw (← c.at-w.ensures, ← c.payload-n.ensures) at (c.in_ok-past_length-in-Parallel.ensures.read (map shape_number c.args.types.now) d 8 code k (rw c.in-Parallel.is at e) (omega arith))

pub returns-in_err-variables-in-Parallel : goal.returns-in_err-variables-in-Parallel
returns-in_err-variables-in-Parallel c d code k e =
    let p = err_from_is_err_and c.from_residual-in_err-variables-in-Parallel.result c.from_residual-in_err-variables-in-Parallel.ensures.1 in
    rw (p.1, p.2)
    (or-refused (and_then (both (goal.at.returns-in_err-variables-in-Parallel c).In_ok-past_length-in-Parallel d code k e) refl (c.in_err-variables-in-Parallel.ensures (map shape_number c.args.types.now) d c.payload-n.result 1 code (k + 1))) _ refl)

pub variables_at-requires-in-Parallel : goal.variables_at-requires-in-Parallel
variables_at-requires-in-Parallel c =
    let r = c.in_ok-past_length-in-Parallel.ensures.short in
    (record { within = (c.in_ok-variables-in-Parallel.ensures [] 0 0 0 0 0).inside; few = r.0.few }, rw (c.payload-n.ensures, c.at-w.ensures) r.1)

pub returns-in_ok-variables-in-Parallel : goal.returns-in_ok-variables-in-Parallel
returns-in_ok-variables-in-Parallel c d code k e =
    and_then (both (goal.at.returns-in_ok-variables-in-Parallel c).In_ok-past_length-in-Parallel d code k e) refl
    (and_then (c.in_ok-variables-in-Parallel.ensures (map shape_number c.args.types.now) d c.payload-n.result 1 code (k + 1)) refl (to-alike (c.variables_at-in-Parallel.ensures d code (k + 1)) (any-type _ _ 1 code (k + 1) d _)))
