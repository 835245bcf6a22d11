use Rattle.wrp_pcap.proofs.CompleteJudged as proof
use Rattle.wrp_pcap.proofs.inspect_laws.complete_is_judged.Goals as goal

pub returns : goal.returns
returns c = proof.complete_is_judged
