-- The lists of the variables' bits are those of the row system.
use Rattle.std.proofs.Common.{refl, ap, arith}
use lib.ListN.{length-replicate}
use Rattle.integers.specs.declared.Bounds.{Bounds}
use Rattle.std.proofs.lemmas.List.{take-replicate}
use Rattle.bitreading.proofs.Room.{domains-none, bits-none}
use Rattle.bestbits.proofs.Answers.{too_many, no_variable}
use Rattle.bestbits.proofs.best_accepted.Goals as goal

pub list_bits-listed-requires-clause-room : goal.list_bits-listed-requires-clause-room
list_bits-listed-requires-clause-room c = rw (length-replicate {A = Bounds} 4096 c.new-domains.result) (omega arith)

pub list_bits-listed-requires-clause-no_domains : goal.list_bits-listed-requires-clause-no_domains
list_bits-listed-requires-clause-no_domains c = domains-none 4096 refl c.new-domains.ensures

pub list_bits-listed-requires-clause-no_bits : goal.list_bits-listed-requires-clause-no_bits
list_bits-listed-requires-clause-no_bits c = bits-none c.new-domains.result 4096 refl

pub returns-then-n-gt-BITS : goal.returns-then-n-gt-BITS
returns-then-n-gt-BITS c =
    too_many c.args.ws.now c.args.variable c.args.direction c.args.out.now c.requires (omega (arith, c.list_bits-listed.ensures.same_count, c.if-n-gt-BITS.true))

pub returns-then-listed-variable : goal.returns-then-listed-variable
returns-then-listed-variable c =
    let k = c.list_bits-listed.ensures in
    no_variable c.args.ws.now c.args.variable c.args.direction c.args.out.now c.requires (omega (arith, k.same_count, c.if-n-gt-BITS.false)) (omega (arith, k.as_many, c.if-listed-variable.true))

pub best_listed-requires : goal.best_listed-requires
best_listed-requires c =
    let k = c.list_bits-listed.ensures in
    let few = c.if-n-gt-BITS.false in
    let s = c.system_of-system.ensures in
    record {
      listed = record { read = rw s.0 c.requires; rows_are = rw (s.0, s.1, s.2, s.3) k.same_rows; count = rw s.0 k.same_count; few = few };
      none_added = take-replicate _ 1024 _ few;
      named = record {
        named = rw s.0 (omega (arith, k.as_many, c.if-listed-variable.false));
        bounds_are = rw (s.0, s.1) (ap (λ f. f c.args.variable) k.same_bounds);
        encoding_is = rw (s.0, s.1, s.2) (ap (λ f. f c.args.variable) k.same_encodings);
      };
    }
