-- What the contracts cite: the number of each call.
pub mod CallNumber
