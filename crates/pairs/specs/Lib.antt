-- What the contracts cite: the two models of a pair, the calls over it, what fill hands over, that each candidate stands alone, what a faulty table does; and what only
-- internal contracts cite, Copied.
pub mod Pair
pub mod Calls
pub mod HandsOver
pub mod Alone
pub mod FaultyTable
pub mod Copied
