-- What the contracts of this crate use, besides the definitions that `hashlink` passes on.
pub mod Answers
pub mod Appearances
pub mod Contents
pub mod Merged
pub mod Numbered
pub mod Sections
pub mod Subscribers
