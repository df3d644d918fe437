pub mod Dropping
pub mod Evicting
pub mod Inserted
pub mod Totals
