-- What the contracts cite: L and U of a constraint's sum; and what only internal contracts cite, Forms and Places.
pub mod Sum
pub mod Forms
pub mod Places
