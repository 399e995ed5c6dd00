-- What the contracts cite: the builtins, their meaning, their codes, the shapes of their arguments, a constraint at a place, reading a model, judge-model.
pub mod Builtin
pub mod Meaning
pub mod Table
pub mod Shape
pub mod Shapes
pub mod Codes
pub mod Headed
pub mod Reading
pub mod InRange
pub mod Model
pub mod JudgeModel
