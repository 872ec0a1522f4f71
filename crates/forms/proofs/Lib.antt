mod Shifts
pub mod Orders
mod Layers
pub mod Soundness
pub mod Exponents
pub mod Nearests
pub mod Writes
mod Grained
mod Closest
mod Answered
