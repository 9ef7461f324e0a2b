pub mod AllEdges
pub mod Moving
pub mod RowLaws
pub mod TableLaws
pub mod Tables
