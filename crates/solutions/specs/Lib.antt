-- What the contracts cite: the value lists of bounds, the solutions of a model, and that these are all of them; and what only internal contracts cite, AllWithin, Odometer and
-- Walk.
pub mod Lists
pub mod Solutions
pub mod AllSolutions
pub mod AllWithin
pub mod Odometer
pub mod Walk
