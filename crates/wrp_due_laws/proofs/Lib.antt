pub mod Arriving
pub mod Fitting
pub mod Happening
pub mod Heard
pub mod LinkFitting
pub mod Measuring
pub mod SetFitting
