pub mod ParsingLemmas
pub mod RequestLemmas
