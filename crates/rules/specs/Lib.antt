-- What the contracts cite: blocks, the rules of the codes, what fill picks, and the answers of check, translate and fill.
pub mod Block
pub mod Parts
pub mod Division
pub mod Power
pub mod Rule
pub mod Pick
pub mod Shared
pub mod Translation
pub mod Check
pub mod Translate
pub mod Fill
pub mod InRange
