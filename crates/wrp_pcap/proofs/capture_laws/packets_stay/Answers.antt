use Rattle.wrp_pcap.proofs.CaptureLaws as proof
use Rattle.wrp_pcap.proofs.capture_laws.packets_stay.Goals as goal

pub returns : goal.returns
returns c = proof.stay
