pub mod Appends
pub mod Written
pub mod OneValue
pub mod ReadBack
