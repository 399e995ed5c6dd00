pub mod Room
pub mod Listed
pub mod Weighing
pub mod Variable
pub mod Faults
