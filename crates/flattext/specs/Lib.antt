-- The text of a model, of its variables' names and its calls' arguments; which names are free.
pub mod Builtin
pub mod Called
pub mod SeenCalled
pub mod CallText
pub mod ModelText
pub mod Name
pub mod Elements
