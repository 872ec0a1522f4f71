pub mod Names
pub mod NameLaws
pub mod Spellings
