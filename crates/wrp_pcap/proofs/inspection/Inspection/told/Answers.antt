use Rattle.wrp_pcap.proofs.TakingPackets.{told_message}
use Rattle.wrp_pcap.proofs.inspection.Inspection.told.Goals as goal

pub returns-in-Message : goal.returns-in-Message
returns-in-Message c before taken =
    told_message c.args.self.now before c.args.number c.args.content.now _ _ taken c.told.ensures c.in-Message.is
