pub mod Accepted
pub mod Laws
pub mod Names
pub mod Same
