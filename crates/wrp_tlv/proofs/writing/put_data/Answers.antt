use Rattle.std.proofs.Common.{sym, ap}
use Rattle.wrp_tlv.specs.WhiteRabbit.{data_of}
use Rattle.wrp_tlv.proofs.Appends.{and_then, renamed}
use Rattle.wrp_tlv.proofs.writing.put_data.Goals as goal

pub returns-in-Calibrated-clause-appended : goal.returns-in-Calibrated-clause-appended
returns-in-Calibrated-clause-appended c =
    renamed (and_then c.put_u64.ensures.items c.put_u64-in-Calibrated.ensures.items) (ap data_of (sym c.in-Calibrated.is))
