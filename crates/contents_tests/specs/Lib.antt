pub mod Texts
pub mod Agreement
