mod PortLaws
mod PairLaws
mod PremiseLaws
mod TimeLaws
mod HeardLaws
mod SentLaws
mod TheoremLaws
mod LineLists
pub mod LineExact
mod LineTakingLaws
mod LineWords
mod PrintedLaws
pub mod LineTheoremLaws
pub mod LineAnswerLaws
pub mod LineDecided
