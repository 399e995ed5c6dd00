-- The arguments of builtins with a code; items as calls of such builtins; what is asked of one variable.
pub mod Range
pub mod Sorts
pub mod Arguments
pub mod Rewritten
pub mod Variables
pub mod Made
