pub mod FittingInputs
pub mod MadeTables
pub mod Works
