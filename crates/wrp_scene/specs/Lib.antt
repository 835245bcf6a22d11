pub mod EventLimit
pub mod Scenario
pub mod ScenarioKinds
pub mod ScenarioLines
