pub mod Own
pub mod Projected
pub mod Shown
pub mod Texts
pub mod Written
