-- 01: "The program "rows" reads T3's bytes from standard input and prints one word a line".
use Rattle.std.specs.Prelude.{List, ℕ}
use Rattle.words.specs.Limit as Limit
use Rattle.rules.specs.Translate.{translate_fault_in}
use Rattle.rules.specs.Translation.{system_words}
use Rattle.lines.specs.Lines.{program_words, word_lines, ◌else_print◌}

-- of the words of those bytes: "Above 16,384 row words it prints refusal 16."
unfoldable pub rows_text : List ℕ → List ℕ
rows_text ws = translate_fault_in Limit.range ws program_words else_print word_lines (system_words ws)
