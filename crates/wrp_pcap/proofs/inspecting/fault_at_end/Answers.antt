use Rattle.wrp_pcap.specs.declared.capture.Front.TheVariants.{Whole, Refused, More, End}
use Rattle.wrp_pcap.proofs.CaptureDue.{cut_not_whole, ended_not_more}
use Rattle.wrp_pcap.proofs.inspecting.fault_at_end.Goals as goal

pub returns-in-Refused : goal.returns-in-Refused
returns-in-Refused c = ((c.in_front.ensures (Refused c.in-Refused.fault)).0 c.in-Refused.is).0

pub returns-in-End : goal.returns-in-End
returns-in-End c = ((c.in_front.ensures End).0 c.in-End.is).1

pub returns-in-Whole : goal.returns-in-Whole
returns-in-Whole c = absurd (cut_not_whole c.args.order c.args.held.now c.requires ((c.in_front.ensures (Whole c.in-Whole.field-0)).0 c.in-Whole.is).0)

pub returns-in-More : goal.returns-in-More
returns-in-More c = absurd (ended_not_more c.args.order c.args.held.now ((c.in_front.ensures More).0 c.in-More.is))
