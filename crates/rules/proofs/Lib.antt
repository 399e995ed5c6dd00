-- Table T of document 01, computed; the lengths of a rule's parts; the values of bounds and the members of a set.
pub mod TableT
pub mod Lengths
pub mod Members
pub mod Power
