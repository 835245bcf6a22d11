use Rattle.std.proofs.Common.{refl}
use Rattle.wrp_pcap.proofs.TakingPackets.{counted}
use Rattle.wrp_pcap.proofs.counts.Counts.with.Goals as goal

pub returns-in-Message-clause-counts : goal.returns-in-Message-clause-counts
returns-in-Message-clause-counts c before counts told =
    counted c.args.self _ before c.args.content.now c.args.told c.requires counts told refl (rw c.in-Message.is c.saturating_add.ensures) (rw c.in-Message.is refl) (rw c.in-Message.is refl) c.complete_with.ensures
