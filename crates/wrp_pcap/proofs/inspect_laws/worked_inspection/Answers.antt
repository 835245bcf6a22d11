use Rattle.wrp_pcap.proofs.WorkedInspection as proof
use Rattle.wrp_pcap.proofs.inspect_laws.worked_inspection.Goals as goal

pub returns : goal.returns
returns c = proof.worked_inspection
