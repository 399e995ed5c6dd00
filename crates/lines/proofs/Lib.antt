-- Laws of the lines that the programs print, and of what they print by the answer of a call.
pub mod Lines
pub mod Printed
