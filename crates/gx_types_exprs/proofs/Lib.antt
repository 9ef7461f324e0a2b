pub mod Arguments
pub mod Columns
pub mod Depths
pub mod Facts
pub mod Soundness
pub mod Trees
