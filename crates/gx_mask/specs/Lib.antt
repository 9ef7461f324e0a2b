pub mod Operations
pub mod U64s
