-- The blocks over a shared variable as the code lays them.
pub mod LeftOut
pub mod Blocks
