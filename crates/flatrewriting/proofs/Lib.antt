pub mod Walks
pub mod Ranges
pub mod GivenLaws
pub mod Placing
pub mod ClauseLaws
pub mod Coded
pub mod Extremes
pub mod Rewriting
