pub mod Texts
pub mod Numbers
pub mod Cbc
pub mod Ctr
pub mod Filling
pub mod Mac
