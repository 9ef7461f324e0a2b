pub mod FiledRows
pub mod RowsOfParts
pub mod RowsOfLoads
