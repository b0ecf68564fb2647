pub mod Ciphers
