pub mod Laws
pub mod SimStands
pub mod SimText
pub mod Simulates
