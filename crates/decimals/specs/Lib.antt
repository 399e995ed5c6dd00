-- What the contracts cite: numbers as text, text in columns, what stands ahead of a number's last digit.
pub mod Decimal
pub mod Column
pub mod Marked
pub mod Ahead
pub mod Printed
