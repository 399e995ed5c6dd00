-- What the contracts cite: the answer of fill, that the values it wrote satisfy the row system, and what it hands over; and what only internal contracts cite, PicksWritable.
pub mod Filled
pub mod Satisfied
pub mod HandsOver
pub mod PicksWritable
