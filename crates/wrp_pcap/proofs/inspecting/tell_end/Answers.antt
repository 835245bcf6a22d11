use Rattle.std.proofs.Common.{inl, refl, ◌∙◌, arith}
use Rattle.wrp_pcap.proofs.CaptureDue.{fault_told, sum_told}
use Rattle.wrp_pcap.proofs.CaptureReading.{fault_is_some}
use Rattle.wrp_pcap.proofs.inspecting.tell_end.Goals as goal

pub tell_fault-requires : goal.tell_fault-requires
tell_fault-requires c =
    let some = fault_is_some c.args.order c.in-Some.fault c.args.held.now c.in-Some.ensures in
    let room = c.requires.more.1 (omega (arith, some)) in
    omega (arith, room, c.packets.ensures)

pub returns-in-Some-clause-tells : goal.returns-in-Some-clause-tells
returns-in-Some-clause-tells c contents taken =
    let some = fault_is_some c.args.order c.in-Some.fault c.args.held.now c.in-Some.ensures in
    let room = c.requires.more.1 (omega (arith, some)) in
    fault_told c.args.order contents c.args.held.now c.args.waiting.now.items c.tell_fault.new.waiting.items _ c.tell_fault.result c.packets.result c.in-Some.fault
    (c.packets.ensures ∙ taken.counts.packets) c.in-Some.ensures (inl refl) (omega (arith, room, c.packets.ensures))
    c.tell_fault.ensures.told c.tell_fault.ensures.memory c.tell_fault.ensures.either

pub returns-in-None-clause-tells : goal.returns-in-None-clause-tells
returns-in-None-clause-tells c contents taken =
    sum_told c.args.order contents c.args.held.now c.args.waiting.now.items c.tell_sum.new.waiting.items c.tell_sum.result c.in-None.ensures
    (λ done. c.tell_sum.ensures.told contents done taken) c.tell_sum.ensures.memory c.tell_sum.ensures.either
