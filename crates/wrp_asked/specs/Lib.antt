use Rattle.wrp_commands.specs.Request.{CommandLine}
pub mod Alone
pub mod AloneAims
pub mod Answer
pub mod AnswerLaws
pub mod EmitHeadline
pub mod Ends
pub mod EventLines
pub mod Headline
pub mod HopByHop
pub mod Input
pub mod LoopHeadline
pub mod PrintedTracks
pub mod ReplayHeadline
pub mod ReportLines
pub mod SimHeadline
pub mod Tasks
pub mod TrackLines
