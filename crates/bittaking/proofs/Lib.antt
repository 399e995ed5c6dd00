-- Laws of its functions.
pub mod Far
pub mod Line
