-- By computing them.
use Rattle.std.proofs.Common.{refl}
use Rattle.wrp_pcap.proofs.laws.marks_of_eight.Goals as goal

pub returns : goal.returns
returns c = record { slave = refl; master = refl }
