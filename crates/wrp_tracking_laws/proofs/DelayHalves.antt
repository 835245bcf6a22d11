-- The pieces of the delay half, call by call.
use Rattle.std.proofs.Common.{ℕ, ℤ, List, ◌∷◌, arith}
use Rattle.std.proofs.lemmas.Grind.{common_steps}
use Rattle.wrp_exch.specs.Call.{Call}
use Rattle.wrp_bounds.specs.declared.numbers.HopNumbers.{HopNumbers}
use Rattle.wrp_tracking_laws.specs.Moment.{Moment}
use Rattle.wrp_tracking_laws.specs.SyncPieces.{Told}
use Rattle.wrp_tracking_laws.specs.DelayPieces.{DelayHolds, RequestKeeps, SendingKeeps, RespKeeps, OthersKeepDelay, FourOfPieces}

pub request-keeps : RequestKeeps
request-keeps hop constant past from may ring calls seq holds = grind (arith, common_steps)

pub sending-keeps : SendingKeeps
sending-keeps hop constant past from may ring calls seq t3 tick true_if holds = grind (arith, common_steps)

pub others-keep_delay : OthersKeepDelay
others-keep_delay hop constant past from may ring calls number seq tick phase precise correction t2 holds = grind (arith, common_steps)

-- more moments keep it
pub moment-keeps_delay : (hop : HopNumbers) (constant : ℤ) (now : Moment) (past : List Moment) (from : ℕ) (may : List Told) (ring : ℕ) (calls : List Call) → DelayHolds hop constant past from may ring calls →
    DelayHolds hop constant (now ∷ past) from may ring calls
moment-keeps_delay hop constant now past from may ring calls holds = grind (arith, common_steps)

pub four-of_pieces : FourOfPieces
four-of_pieces hop constant past from said may ring calls sync delay = grind (arith, common_steps)

pub resp-keeps : RespKeeps
resp-keeps hop constant past from may ring calls seq t4 comes holds = grind (arith, common_steps)
