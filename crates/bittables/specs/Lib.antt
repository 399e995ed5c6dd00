-- What the contracts cite: the lists of the variables' bits, how they are made, and the rows over bits by them.
pub mod BitTables
pub mod KeptBits
pub mod Systems
