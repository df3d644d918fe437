-- What the contracts of the curve use, besides `hashlink_model`.
pub mod Curve
pub mod Marks
pub mod Recency
