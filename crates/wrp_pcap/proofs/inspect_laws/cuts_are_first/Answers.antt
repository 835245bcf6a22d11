use Rattle.wrp_pcap.proofs.InspectAim as proof
use Rattle.wrp_pcap.proofs.inspect_laws.cuts_are_first.Goals as goal

pub returns : goal.returns
returns c = proof.cuts_are_first
