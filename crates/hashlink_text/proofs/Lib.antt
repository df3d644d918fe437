-- Lemmas on texts of commands and the answers to them.
pub mod Cutting
pub mod Digits
pub mod Grammar
pub mod Readers
pub mod ReadSo
pub mod Answered
pub mod Lists
pub mod Progress
pub mod Worked
