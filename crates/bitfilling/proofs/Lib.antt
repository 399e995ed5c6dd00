-- Laws of rows over bits as lists, of lines, of rows that add nothing, and of the walk over rows.
pub mod Filling
pub mod Lines
pub mod Idle
pub mod Walk
