-- What bits without a fault say: the values that they read as, the form's value, and the bits of values.
pub mod Faults
pub mod ReadValues
pub mod FormValue
pub mod ValueBits
pub mod Energy
pub mod OnBits
pub mod Refuted
pub mod Front
