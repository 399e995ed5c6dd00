-- Which builtin lies behind a failed row: the reason, and what it says of the model and its row system.
pub mod Reason
pub mod Behind
