-- What the contracts cite: the answer of check; and what only internal contracts cite, Walk, ModelBounds and ReadModel.
pub mod Checked
pub mod Walk
pub mod ModelBounds
pub mod ReadModel
