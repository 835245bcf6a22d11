pub mod DeltaLaws
pub mod LineLaws
pub mod Signals
