pub mod Finishing
pub mod OneScenario
pub mod SceneLines
