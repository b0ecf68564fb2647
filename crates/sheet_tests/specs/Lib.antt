pub mod Texts
pub mod Differences
pub mod Escapes
pub mod Agreement
