pub mod RowsOfBlocks
