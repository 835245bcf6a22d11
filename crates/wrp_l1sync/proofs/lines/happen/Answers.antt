-- What is written for an event is what looking back says.
use Rattle.std.proofs.Common.{◌∷◌, refl}
use Rattle.wrp_l1sync.proofs.LineTakingLaws.{took_event}
use Rattle.wrp_l1sync.proofs.lines.happen.Goals as goal

pub returns-in_ok-append_event-in-Ok-clause-stands :
    goal.returns-in_ok-append_event-in-Ok-clause-stands
returns-in_ok-append_event-in-Ok-clause-stands c = λ line events says stands.
    let grown = c.in-Ok.ensures.stands refl events stands in
    took_event c.args.pair.now c.step.new.self events c.args.event.now c.in-Ok.out line c.args.text.now.items c.append_event.new.text.items
    says grown c.in-Ok.ensures.limits (c.in-Ok.ensures.out events stands) c.requires.none
    (c.in_ok-append_event-in-Ok.ensures (c.args.event.now ∷ events) grown)
