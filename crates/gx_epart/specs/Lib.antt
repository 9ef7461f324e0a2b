pub mod Columns
pub mod Edges
pub mod Numbers
pub mod OrderLaws
pub mod Renumbering
pub mod UniqueLaws
