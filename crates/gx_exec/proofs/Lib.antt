pub mod AnsweredActions
pub mod ForcedStatements
pub mod HeldStops
pub mod JudgedPhases
pub mod LargerPlans
pub mod NeededStatements
pub mod PhaseSteps
pub mod ReadActions
