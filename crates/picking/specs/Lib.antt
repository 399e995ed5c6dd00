-- What only internal contracts cite: fill's output, what is picked for one constraint, one number among zeros, the products of a power.
pub mod Output
pub mod Picked
pub mod Only
pub mod Powered
