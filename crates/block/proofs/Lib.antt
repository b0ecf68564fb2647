pub mod Arrays
pub mod Bytes
