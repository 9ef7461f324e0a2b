pub mod Built
pub mod CutWordLaws
pub mod Marks
pub mod Needs
pub mod ScriptTyping
pub mod SoundStmts
pub mod StmtSorts
pub mod TypeStops
