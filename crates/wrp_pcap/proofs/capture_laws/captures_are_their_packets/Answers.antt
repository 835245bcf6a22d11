use Rattle.wrp_pcap.proofs.CaptureLaws as proof
use Rattle.wrp_pcap.proofs.capture_laws.captures_are_their_packets.Goals as goal

pub returns : goal.returns
returns c = proof.are_their_packets
