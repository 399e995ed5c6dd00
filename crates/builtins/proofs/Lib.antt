-- Laws for proofs about builtins.
pub mod Element
pub mod Coded
pub mod CutPower
