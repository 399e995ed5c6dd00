-- Two numbers near 0 are multiplied.
use Rattle.std.proofs.Common.{arith}
use Rattle.integers.specs.Terms.{value}
use Rattle.integers.proofs.Fits.{back}
use Rattle.words.specs.Word.{signed}
use Rattle.words.proofs.ReadBack.{signed-near, factors-fit, product-size}
use Rattle.rowterms.proofs.term_of.Goals as goal

pub times-requires : goal.times-requires
times-requires c =
    rw (back c.signed.result c.signed.type_inv, c.signed.ensures, back c.known_value.result c.known_value.type_inv, c.known_value.ensures)
    (omega (arith, factors-fit (signed c.args.c) (value c.args.values.now c.args.x) (signed-near c.args.c) c.requires.1))

pub returns-clause-size : goal.returns-clause-size
returns-clause-size c =
    rw (back c.times.result c.times.type_inv, c.times.ensures.value, back c.signed.result c.signed.type_inv, c.signed.ensures, back c.known_value.result c.known_value.type_inv, c.known_value.ensures)
    (product-size (signed c.args.c) (value c.args.values.now c.args.x) (signed-near c.args.c) c.requires.1)
