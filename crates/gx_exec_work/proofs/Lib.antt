pub mod Contents
pub mod BlocksOfKernels
pub mod RunWorlds
pub mod Statements
