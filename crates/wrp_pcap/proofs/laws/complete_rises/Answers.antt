use Rattle.wrp_pcap.proofs.Rising as proof
use Rattle.wrp_pcap.proofs.laws.complete_rises.Goals as goal

pub returns : goal.returns
returns c = proof.complete_rises
