use Rattle.wrp_pcap.proofs.Due as proof
use Rattle.wrp_pcap.proofs.laws.certificate_is_due.Goals as goal

pub returns : goal.returns
returns c = proof.certificate_is_due
