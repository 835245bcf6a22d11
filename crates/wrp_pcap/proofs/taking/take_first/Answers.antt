use Rattle.std.proofs.Common.{◌+◌, refl, ap, ◌∙◌}
use Rattle.std.specs.Prelude.{slice_range}
use Rattle.wrp_pcap.specs.Capture.{captured}
use Rattle.wrp_pcap.proofs.CaptureGoing.{reached_passed}
use Rattle.wrp_pcap.proofs.taking.take_first.Goals as goal

pub returns-clause-stands : goal.returns-clause-stands
returns-clause-stands c taken out reached =
    reached_passed c.args.order taken out c.args.pieces.now c.pass.new.self _ _ _ _ c.args.inspection.now _ c.requires.whole
    (c.captured_len-size.ensures ∙ ap (captured c.args.order) c.held.ensures)
    (ap (λ h. slice_range h 16 (16 + c.captured_len-size.result)) c.held-2.ensures)
    c.pass.ensures c.requires.room (c.in_ok-take_packet.ensures.taken refl) reached
