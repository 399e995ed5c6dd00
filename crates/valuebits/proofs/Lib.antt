pub mod Choosing
pub mod Variables
pub mod Products
pub mod Rows
pub mod Answers
pub mod Front
