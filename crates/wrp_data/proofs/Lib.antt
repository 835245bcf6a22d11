pub mod NonzeroCounts
