pub mod Chunks
pub mod Editing
pub mod PieceLaws
