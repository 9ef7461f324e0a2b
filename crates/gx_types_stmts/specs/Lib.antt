pub mod KnownNames
pub mod Makes
pub mod ShortForms
pub mod StmtBounds
pub mod StmtNumbers
pub mod StmtRules
pub mod StmtTyping
