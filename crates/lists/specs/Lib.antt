pub mod Spellings
pub mod Cuts
pub mod Words
pub mod Answers
pub mod Conversions
pub mod Tallies
pub mod Lines
