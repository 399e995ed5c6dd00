-- What only internal contracts cite: how many constraints encode each variable, and which are shared by that.
pub mod Uses
