-- What the contracts of the cases cite.
pub mod HeadBytes
