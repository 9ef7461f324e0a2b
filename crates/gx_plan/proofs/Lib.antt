pub mod NamedSorts
pub mod PlanSteps
