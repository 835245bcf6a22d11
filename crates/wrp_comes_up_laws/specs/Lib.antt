pub mod Laws
pub mod Rest
pub mod Served
