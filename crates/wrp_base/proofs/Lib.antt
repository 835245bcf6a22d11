pub mod DivisionLaws
pub mod Booleans
pub mod Integers
pub mod Lists
pub mod Naturals
pub mod Options
