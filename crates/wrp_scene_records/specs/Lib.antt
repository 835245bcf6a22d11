pub mod ScenarioStands
pub mod Scenarios
