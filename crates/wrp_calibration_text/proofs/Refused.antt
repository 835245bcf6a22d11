-- A refusal as an answer.
use Rattle.std.proofs.Common.{Err}
use Rattle.toml.specs.Data.{Members}
use Rattle.wrp_base.specs.declared.fault.ConfFault.{ConfFault}
use Rattle.wrp_base.specs.declared.fault.ConfFault.TheVariants.{Fault, Memory}
use Rattle.wrp_caldb.specs.Calibration.{IsRefused}
use Rattle.wrp_caldb.specs.Place.{PlaceAt}
use Rattle.wrp_calibration_text.specs.Reading.{IsAnswerOf, IsFaultAt}
use Rattle.wrp_caldb.specs.declared.keys.Others.{Others}
use Rattle.wrp_caldb.specs.declared.row.Code.{Code}

-- the fault of the code and place that a table is refused for is the answer for it
pub refused_answer : (others : Others) (doc : Members) (code : Code) (place : PlaceAt) (fault : ConfFault)
    → IsRefused others doc code place → IsFaultAt code place fault → IsAnswerOf others doc (Err fault)
refused_answer others doc code place (Fault number text) refused is = (code, place, refused, is.0, is.1)
refused_answer others doc code place (Memory e) refused is = tt
