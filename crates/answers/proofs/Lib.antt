-- Laws of what the command prints.
pub mod Listed
