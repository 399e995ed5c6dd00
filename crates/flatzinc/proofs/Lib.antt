pub mod Plain
pub mod Solved
pub mod Carried
pub mod Agreeing
pub mod Built
