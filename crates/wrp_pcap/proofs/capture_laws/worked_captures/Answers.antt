use Rattle.wrp_pcap.proofs.CaptureRows as proof
use Rattle.wrp_pcap.proofs.capture_laws.worked_captures.Goals as goal

pub returns : goal.returns
returns c = proof.rows
