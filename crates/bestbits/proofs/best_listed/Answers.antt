-- The numbers added are those of the distance.
use Rattle.std.proofs.Common.{◌∙◌, arith}
use Rattle.integers.proofs.Fits.{back}
use Rattle.bittables.specs.BitTables.{firsts}
use Rattle.bitfilling.proofs.Filling.{zeros-peak}
use Rattle.bestbits.proofs.Answers.{best-taken}
use Rattle.bestbits.proofs.Distance.{sign-near, start-near, times-near, added-peak, factor-is, constant-is, added-is}
use Rattle.bestbits.proofs.best_listed.Goals as goal

pub add_variable-requires : goal.add_variable-requires
add_variable-requires c =
    rw (back c.sign_of.result c.sign_of.type_inv, c.sign_of.ensures, c.requires.none_added) (sign-near c.args.direction, omega (arith, zeros-peak c.args.n))

pub invariant_of-taken : goal.invariant_of-taken
invariant_of-taken c =
    let h = c.span_at-width.ensures.size in
    record {
      near = record {
        near_times = rw (back c.times_of.result c.times_of.type_inv, c.times_of.ensures) (times-near c.span_at-width.result h);
        near_constant = rw (back c.start_of.result c.start_of.type_inv, c.start_of.ensures) (start-near c.args.direction c.span_at-width.result h);
        near_added =
            rw (c.add_variable.ensures.sum, back c.sign_of.result c.sign_of.type_inv, c.sign_of.ensures, c.requires.none_added)
            (added-peak c.args.direction c.args.system.now.table.domains.now (firsts c.args.system.now.table.bits.now) c.args.variable c.args.n (rw (← c.span_at-width.ensures.value) h));
      };
    }

pub returns : goal.returns
returns c =
    let k = c.requires.listed in
    let h = c.span_at-width.ensures.size in
    let w = c.span_at-width.ensures.value in
    best-taken c.args.system.now.words.now c.args.variable c.args.direction c.args.out.now k.read (omega (arith, k.count, k.few)) c.requires.named.named
    (back c.times_of.result c.times_of.type_inv ∙ c.times_of.ensures ∙ rw w (factor-is c.args.system.now.words.now c.args.variable c.args.direction c.args.system.now.table.domains.now (firsts c.args.system.now.table.bits.now) c.requires.named.bounds_are c.requires.named.encoding_is))
    (back c.start_of.result c.start_of.type_inv ∙ c.start_of.ensures ∙ rw w (constant-is c.args.system.now.words.now c.args.variable c.args.direction c.args.system.now.table.domains.now (firsts c.args.system.now.table.bits.now) c.requires.named.bounds_are c.requires.named.encoding_is k.read c.requires.named.named))
    (λ i. rw (c.add_variable.ensures.sum, back c.sign_of.result c.sign_of.type_inv, c.sign_of.ensures, c.requires.none_added, k.count) (added-is c.args.system.now.words.now c.args.variable c.args.direction c.args.system.now.table.domains.now (firsts c.args.system.now.table.bits.now) c.requires.named.bounds_are c.requires.named.encoding_is i))
    c.form_listed.ensures
