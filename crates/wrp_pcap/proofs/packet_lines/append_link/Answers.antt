use Rattle.wrp_pcap.proofs.PacketLineSteps.{linked}
use Rattle.wrp_pcap.proofs.packet_lines.append_link.Goals as goal

pub returns : goal.returns
returns c =
    linked _ _ _ _ _ _ _ _ _ _ _ c.in_ok-append_number.ensures c.in_ok-append_word.ensures c.in_ok-append_identity.ensures c.in_ok-append_identity-2.ensures c.in_ok-append_verdict.ensures c.in_ok-append_end.ensures
