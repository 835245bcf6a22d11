pub mod EndRoom
pub mod FirstPort
pub mod New
pub mod Plant
pub mod PutOut
pub mod Sizes
