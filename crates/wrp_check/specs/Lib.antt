pub mod Handshake
pub mod Judged
pub mod Laws
pub mod Required
pub mod Stretches
