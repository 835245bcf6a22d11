use Rattle.wrp_pcap.proofs.Handshakes as proof
use Rattle.wrp_pcap.proofs.inspect_laws.complete_names_handshake.Goals as goal

pub returns : goal.returns
returns c = proof.complete_names_handshake
