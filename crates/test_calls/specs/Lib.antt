pub mod Telling
pub mod OwnNumber
