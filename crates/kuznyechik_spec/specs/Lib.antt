pub mod Field
pub mod Kuznyechik
pub mod Laws
pub mod Tables
