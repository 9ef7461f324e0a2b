pub mod MaskedRows
pub mod Progress
pub mod Spreading
pub mod Joining
pub mod Mapping
pub mod Pairs
