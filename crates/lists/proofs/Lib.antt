pub mod Lawless
pub mod Verdicts
pub mod Tallied
