pub mod Holds
pub mod Laws
pub mod LinkAt
pub mod Order
pub mod Rows
pub mod Table
