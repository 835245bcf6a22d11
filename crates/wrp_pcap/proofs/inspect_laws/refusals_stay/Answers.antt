use Rattle.wrp_pcap.proofs.RefusalsStaying as proof
use Rattle.wrp_pcap.proofs.inspect_laws.refusals_stay.Goals as goal

pub returns : goal.returns
returns c = proof.refusals_stay
