pub mod Edges
pub mod Ends
pub mod LentTables
