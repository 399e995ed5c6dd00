-- Lemmas.
pub mod Lists
pub mod Items
pub mod Noted
pub mod Printed
