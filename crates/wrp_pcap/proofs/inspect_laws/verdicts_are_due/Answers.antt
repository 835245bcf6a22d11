use Rattle.wrp_pcap.proofs.InspectAim as proof
use Rattle.wrp_pcap.proofs.inspect_laws.verdicts_are_due.Goals as goal

pub returns : goal.returns
returns c = proof.verdicts_are_due
