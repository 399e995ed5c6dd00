-- What the contracts cite: what the command prints of an answer.
pub mod Said
pub mod FaultText
pub mod Escaped
pub mod Counted
pub mod Lists
pub mod Refused
pub mod Named
pub mod Judged
pub mod Usage
