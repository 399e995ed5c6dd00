-- What the contracts cite: what is promised of the words, the statements that bytes are read as, what is tested, what FlatZinc is prepared as.
pub mod CarriedOver
pub mod Numbered
pub mod Reads
pub mod Stepped
pub mod Variables
pub mod Placed
pub mod Promise
pub mod Booleans
pub mod Flattened
