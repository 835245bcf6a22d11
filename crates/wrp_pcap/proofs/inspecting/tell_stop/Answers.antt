use Rattle.std.proofs.Common.{inr, refl, subst}
use Rattle.wrp_pcap.specs.declared.taking.Stop.{Stop}
use Rattle.wrp_pcap.specs.declared.capture.CaptureFault.TheVariants.{Long}
use Rattle.wrp_pcap.specs.Inspecting.{Stops}
use Rattle.wrp_pcap.proofs.CaptureDue.{fault_told, large_told}
use Rattle.wrp_pcap.proofs.inspecting.tell_stop.Goals as goal

pub returns-in-Long-clause-tells : goal.returns-in-Long-clause-tells
returns-in-Long-clause-tells c order rest contents count stops =
    let long = subst (λ (s : Stop). Stops order c.args.packets rest s) c.in-Long.is stops in
    fault_told order contents rest c.args.waiting.now.items c.tell_fault.new.waiting.items _ c.tell_fault.result c.args.packets Long count long.0 (inr refl) long.1
    c.tell_fault.ensures.told c.tell_fault.ensures.memory c.tell_fault.ensures.either

pub returns-in-TooLarge-clause-tells : goal.returns-in-TooLarge-clause-tells
returns-in-TooLarge-clause-tells c order rest contents count stops =
    let large = subst (λ (s : Stop). Stops order c.args.packets rest s) c.in-TooLarge.is stops in
    large_told order contents rest c.args.waiting.now.items c.tell_large.new.waiting.items _ c.tell_large.result c.args.packets count large
    c.tell_large.ensures.told c.tell_large.ensures.memory c.tell_large.ensures.either
