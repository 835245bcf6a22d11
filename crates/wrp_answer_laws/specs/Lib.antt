pub mod Accepted
pub mod EachAnswer
pub mod LinkAnswers
pub mod Listed
pub mod LoopAgain
pub mod Moments
pub mod NoOutput
pub mod WorkedLink
