pub mod BoundedScripts
pub mod ComputedMeanings
pub mod MeaningLemmas
pub mod OpenStatements
pub mod ParserLemmas
pub mod ShownBounds
pub mod TextLemmas
