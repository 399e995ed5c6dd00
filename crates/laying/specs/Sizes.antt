-- How large the numbers are that the block writers count with, far below what would wrap.
use Rattle.std.specs.Prelude.{ℕ}

-- the number of a block's first auxiliary is below it. That stays a clause: `first` moves on from block to block, and rows, products and the record of encodings compute with it as with any variable, so that a type for it would be opened in each line; what a block's caller lends has it as a fact (`encodings::context::Context`), of which the blocks without shared variables take two fields alone
abbrev pub first_numbers : ℕ
first_numbers = 10000

-- the most words, auxiliaries and rows that a block adds
abbrev pub block_size : ℕ
block_size = 1000000
