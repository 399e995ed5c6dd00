-- The constant, the lines, the end.
use Rattle.std.proofs.Common.{◌≡◌, ◌+◌, length, arith, to_z-of_z}
use Rattle.bitforms.specs.BitForm.{bit_rows_of, bit_count}
use Rattle.bitforms.specs.Taken.{taken_entry}
use Rattle.bitwriting.specs.Lined.{added_of}
use Rattle.bitform.specs.Answered.{words_by}
use Rattle.bitform.proofs.Pieces.{fits-inside, lines-few, words-length, parts-laid}
use Rattle.bitform.proofs.write_form.Goals as goal

pub write_lines-end-requires-clause-fitting : goal.write_lines-end-requires-clause-fitting
write_lines-end-requires-clause-fitting c =
    rw (c.requires.bits_listed.rows_are, c.requires.bits_listed.count) (fits-inside c.args.system.now.words.now c.args.taken.now.times c.args.taken.now.constant (added_of c.args.taken.now) c.requires.fitting.1).0

pub write_lines-end-requires-clause-in_range : goal.write_lines-end-requires-clause-in_range
write_lines-end-requires-clause-in_range c =
    rw (c.requires.bits_listed.rows_are, c.requires.bits_listed.count) (fits-inside c.args.system.now.words.now c.args.taken.now.times c.args.taken.now.constant (added_of c.args.taken.now) c.requires.fitting.1).1

pub overflow_add-result : goal.overflow_add-result
overflow_add-result c =
    let laid = rw (c.requires.bits_listed.rows_are, c.requires.bits_listed.count) at c.write_lines-end.ensures in
    record { fits = omega (arith, laid.ends, lines-few (taken_entry c.args.taken.now.times (added_of c.args.taken.now) (bit_rows_of c.args.system.now.words.now)) 0 (bit_count c.args.system.now.words.now) (omega (arith, c.requires.bits_listed.count, c.requires.bits_listed.few)), c.requires.bits_listed.count, c.requires.bits_listed.few) }

pub returns : goal.returns
returns c =
    let laid = rw (c.requires.bits_listed.rows_are, c.requires.bits_listed.count) at c.write_lines-end.ensures in
    let e : c.write_lines-end.result + 1 ≡ length (words_by c.args.system.now.words.now c.args.taken.now) = omega (arith, laid.ends, words-length c.args.system.now.words.now c.args.taken.now.times c.args.taken.now.constant (added_of c.args.taken.now)) in
    (e, parts-laid c.args.system.now.words.now c.args.taken.now.times c.args.taken.now.constant (added_of c.args.taken.now) c.args.out.now _ _ _ _ (rw (c.of_number.ensures, to_z-of_z c.ranges.c, c.requires.fitting.0) at c.put_word.ensures) laid (rw c.new.ensures at c.put_word-2.ensures))
