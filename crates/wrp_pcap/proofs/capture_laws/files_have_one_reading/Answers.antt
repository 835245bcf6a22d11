use Rattle.wrp_pcap.proofs.CaptureLaws as proof
use Rattle.wrp_pcap.proofs.capture_laws.files_have_one_reading.Goals as goal

pub returns : goal.returns
returns c = proof.one_reading
