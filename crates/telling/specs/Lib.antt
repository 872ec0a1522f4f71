pub mod Decimals
pub mod Exact
pub mod Texts
