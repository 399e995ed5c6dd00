-- Laws of the definitions.
pub mod Parts
