pub mod Widths
pub mod Fixeds
pub mod Wholes
pub mod Writings
pub mod Shapes
pub mod Ranges
pub mod Residues
