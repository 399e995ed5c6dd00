-- What the contracts cite: the sheet of a row system, and that it has lines of 80 columns.
pub mod Sheet
pub mod EightyColumns
