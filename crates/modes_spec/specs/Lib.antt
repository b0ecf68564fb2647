pub mod Texts
pub mod Ctr
pub mod Cbc
pub mod Mac
pub mod Laws
