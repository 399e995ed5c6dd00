-- What the contracts cite: whether rows over bits fit.
pub mod Checked
