use Rattle.wrp_pcap.proofs.CaptureDue.{refusal_named}
use Rattle.wrp_pcap.proofs.inspecting.append_bad_capture.Goals as goal

pub returns-clause-ok : goal.returns-clause-ok
returns-clause-ok c =
    refusal_named c.append_refusal.result c.args.text.now.items c.append_refusal.new.text.items c.args.packet c.number.result c.name.result.now c.args.fault c.number.ensures c.name.ensures c.append_refusal.ensures.ok
