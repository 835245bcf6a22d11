pub mod Bounds
pub mod Counts
pub mod LawsFit
pub mod NetworkSetting
