-- Paths of the MiniZinc model and their places, what annotations name, the model's names of an array's elements.
pub mod Path
pub mod Place
pub mod Seen
pub mod Annotation
pub mod Label
pub mod Common
pub mod SeenCommon
