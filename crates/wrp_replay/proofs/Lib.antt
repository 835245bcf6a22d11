pub mod BareSetting
pub mod CountLemmas
pub mod GoingOn
pub mod LinkLaws
pub mod OneReplay
pub mod OwnPorts
pub mod PlainLines
pub mod Runs
