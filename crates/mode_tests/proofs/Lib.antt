pub mod Agreeing
pub mod Feeding
