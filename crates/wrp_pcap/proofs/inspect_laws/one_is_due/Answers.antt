use Rattle.wrp_pcap.proofs.OneInspection as proof
use Rattle.wrp_pcap.proofs.inspect_laws.one_is_due.Goals as goal

pub returns : goal.returns
returns c = proof.one_answer
