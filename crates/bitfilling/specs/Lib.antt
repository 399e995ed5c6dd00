-- What the contracts cite: a row over bits as a list, what it adds to a line, and when it adds nothing.
pub mod Filled
pub mod Added
pub mod Idle
