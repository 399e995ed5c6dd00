-- What the contracts cite: a line of the form, and the entries that are written.
pub mod Lined
pub mod Bands
pub mod EntriesPut
pub mod PairsAdded
