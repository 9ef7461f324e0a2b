pub mod Grid
pub mod Mixing
pub mod Places
pub mod Sides
