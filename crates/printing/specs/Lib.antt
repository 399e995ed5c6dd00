-- The text of a model, and that it is read again, stated.
pub mod ModelText
pub mod ReadAgain
