-- By its own lemma.
use Rattle.wrp_pcap.proofs.EachInspected.{each_is_inspected}
use Rattle.wrp_due_laws.proofs.laws.each_is_inspected.Goals as goal

pub returns : goal.returns
returns c = each_is_inspected
