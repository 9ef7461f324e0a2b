pub mod Chunks
pub mod Edits
