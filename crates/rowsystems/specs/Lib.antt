-- What the contracts cite: rows and products, their words, reading a row system, judge-rows.
pub mod Row
pub mod RowWords
pub mod Reading
pub mod RowSystem
pub mod OneWord
pub mod JudgeRows
