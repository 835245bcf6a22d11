pub mod Splitting
pub mod ReadFacts
pub mod FieldLemmas
pub mod HeldNumbers
pub mod PlainLemmas
pub mod Values
pub mod TwoParts
