pub mod Input
pub mod Laws
pub mod Migration
pub mod Sizes
pub mod WorkedSizes
