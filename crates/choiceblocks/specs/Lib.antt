-- What only internal contracts cite: the parts of the blocks of elements, maximum and membership, and members in a list.
pub mod Rows
pub mod FrontListed
