pub mod Calls
pub mod Contents
pub mod Faults
pub mod MemFiles
pub mod MemSinks
pub mod Prefixes
