-- What the hashers of the rows compute.
pub mod OwnHashers
