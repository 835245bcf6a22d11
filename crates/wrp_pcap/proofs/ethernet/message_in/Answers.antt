use Rattle.std.proofs.Common.{refl}
use Rattle.wrp_pcap.specs.Ethernet.{Carries}
use Rattle.wrp_pcap.proofs.Carried.{carried_message, carried_fault, none_carried, no_message, no_fault}
use Rattle.wrp_pcap.proofs.ethernet.message_in.Goals as goal

pub returns-in-Some-clause-message : goal.returns-in-Some-clause-message
returns-in-Some-clause-message c =
    let carries : Carries c.args.packet.now c.in-Some.frame.now = (c.in-Some.ensures c.in-Some.frame.now).0 refl in
    carried_message c.args.packet.now c.in-Some.frame.now c.decode.result carries c.decode.ensures.spelled

pub returns-in-Some-clause-fault : goal.returns-in-Some-clause-fault
returns-in-Some-clause-fault c =
    let carries : Carries c.args.packet.now c.in-Some.frame.now = (c.in-Some.ensures c.in-Some.frame.now).0 refl in
    carried_fault c.args.packet.now c.in-Some.frame.now c.decode.result carries c.decode.ensures.refused

pub returns-in-Some-clause-none : goal.returns-in-Some-clause-none
returns-in-Some-clause-none c =
    let carries : Carries c.args.packet.now c.in-Some.frame.now = (c.in-Some.ensures c.in-Some.frame.now).0 refl in
    (λ is. absurd (cc), λ none. absurd (none c.in-Some.frame.now carries))

pub returns-in-None-clause-message : goal.returns-in-None-clause-message
returns-in-None-clause-message c = no_message c.args.packet.now (none_carried c.args.packet.now c.in-None.ensures)

pub returns-in-None-clause-fault : goal.returns-in-None-clause-fault
returns-in-None-clause-fault c = no_fault c.args.packet.now (none_carried c.args.packet.now c.in-None.ensures)

pub returns-in-None-clause-none : goal.returns-in-None-clause-none
returns-in-None-clause-none c = (λ is. none_carried c.args.packet.now c.in-None.ensures, λ none. refl)
