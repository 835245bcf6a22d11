use Rattle.wrp_pcap.proofs.CaptureLaws as proof
use Rattle.wrp_pcap.proofs.capture_laws.readings_go_on.Goals as goal

pub returns : goal.returns
returns c = proof.go_on
