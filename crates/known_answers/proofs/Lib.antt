pub mod Answers
pub mod CallByCall
pub mod FirstSum
pub mod PairPlan
pub mod PanelRestored
pub mod Promises
pub mod Services
