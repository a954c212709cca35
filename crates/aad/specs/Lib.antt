pub mod Aad
