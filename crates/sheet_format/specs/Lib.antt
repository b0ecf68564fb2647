pub mod Sizes
pub mod Words
pub mod Faults
pub mod Digits
pub mod Lines
pub mod Orders
