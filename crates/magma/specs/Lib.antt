-- The definitions of Magma, what a prepared Magma means, its wide table, what is proved, and the lemmas below its law, which the impl cites.
pub mod Magma
pub mod Prepared
pub mod Tables
pub mod Theorems
pub mod Laws
pub mod Rounds
pub mod Rows
pub mod Bytes
