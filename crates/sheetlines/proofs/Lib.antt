-- Laws of the lines of a row: laying them part after part.
pub mod Cells
