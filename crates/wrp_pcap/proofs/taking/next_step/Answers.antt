use Rattle.std.proofs.Common.{arith}
use Rattle.wrp_pcap.specs.declared.capture.Front.TheVariants.{Whole, Refused, More, End}
use Rattle.wrp_pcap.proofs.CaptureDue.{long_only, more_only, no_end}
use Rattle.wrp_pcap.proofs.taking.next_step.Goals as goal

pub returns-in-Whole : goal.returns-in-Whole
returns-in-Whole c =
    (((c.in_front.ensures (Whole c.in-Whole.field-0)).0 c.in-Whole.is).0, omega (arith, c.ranges.packets.fits, c.if-packets-eq4294967295.false))

pub returns-in-Refused : goal.returns-in-Refused
returns-in-Refused c =
    (long_only c.args.order c.args.held.now c.in-Refused.field-0 ((c.in_front.ensures (Refused c.in-Refused.field-0)).0 c.in-Refused.is), omega (arith, c.ranges.packets.fits, c.if-packets-eq4294967295.false))

pub returns-in-More : goal.returns-in-More
returns-in-More c =
    (more_only c.args.order c.args.held.now ((c.in_front.ensures More).0 c.in-More.is), λ some. omega (arith, c.ranges.packets.fits, c.if-packets-eq4294967295.false))

pub returns-in-End : goal.returns-in-End
returns-in-End c = absurd (no_end c.args.order c.args.held.now ((c.in_front.ensures End).0 c.in-End.is))
