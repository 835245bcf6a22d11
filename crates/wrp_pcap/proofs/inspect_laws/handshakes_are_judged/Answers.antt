use Rattle.wrp_pcap.proofs.InspectAim as proof
use Rattle.wrp_pcap.proofs.inspect_laws.handshakes_are_judged.Goals as goal

pub returns : goal.returns
returns c = proof.judges
