-- What only internal contracts cite: the bounds of the products of int_pow, cut, and what is laid of them.
pub mod Cut
pub mod Chained
