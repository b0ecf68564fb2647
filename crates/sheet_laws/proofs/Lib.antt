-- The proofs of the laws of order sheets.
pub mod Clash
pub mod Cuts
pub mod Forms
pub mod Rows
pub mod Conditions
pub mod Faults
pub mod Walk
pub mod Places
pub mod Prefixes
pub mod Bytes
pub mod Refusals
pub mod Fitting
pub mod Passing
pub mod Law
