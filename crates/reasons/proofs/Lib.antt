-- What a reason says of the row system: its row is the one that judge-rows names, and the reason is true.
pub mod Judged
pub mod Found
pub mod Completed
pub mod Reasons
pub mod Refuted
