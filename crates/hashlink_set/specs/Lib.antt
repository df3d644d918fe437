-- What the contracts of the set use, besides `hashlink_model`.
pub mod Elements
pub mod Walks
pub mod Answers
pub mod Called
pub mod Cloned
pub mod Compared
pub mod Drain
pub mod Made
pub mod SetLends
