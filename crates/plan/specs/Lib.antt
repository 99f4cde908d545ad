pub mod Change
pub mod Item
pub mod Move
pub mod Plan
pub mod PlanAt
pub mod Prepared
pub mod Step
pub mod Talk
