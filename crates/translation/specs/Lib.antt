-- What the contracts cite: demand 3 of what translate wrote; and what only internal contracts cite, Writable.
pub mod Shares
pub mod Writable
