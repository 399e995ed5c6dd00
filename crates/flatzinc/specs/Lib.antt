-- What FlatZinc's items mean; what the code's types stand for; systems of builtins, and what it is that one is carried over to another.
pub mod Items
pub mod Seen
pub mod Numbers
pub mod Calls
pub mod System
pub mod Answer
