-- What the contracts cite: bits as they are lent, and the lists of the variables' bits.
pub mod FineBits
pub mod BitsGiven
