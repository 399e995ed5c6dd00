-- What statements stand for: names, builtins, values where they are due, and the state after each statement.
pub mod Scope
pub mod Due
pub mod Named
pub mod Step
pub mod Seen
pub mod Laws
pub mod SeenDue
