pub mod Formats
pub mod Floats
pub mod Writings
pub mod InRange
pub mod Fields
pub mod FloatLaws
pub mod Significands
pub mod Readings
