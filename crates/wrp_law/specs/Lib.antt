pub mod Law
pub mod LinkLaw
pub mod Table
