use Rattle.std.proofs.Common.{◌∙◌, ap, sym, subst, arith}
use Rattle.wrp_port.specs.PortAt.{IsStamp}
use Rattle.wrp_course.specs.declared.clocks.ClockState.{ClockState}
use Rattle.wrp_changes.proofs.FrameGifts.{departure_gives, no_departure_gives, stamp_fits}
use Rattle.wrp_course.proofs.PortNumbers.{has_placed}
use Rattle.wrp_plant.proofs.SignedReads.{read}
use Rattle.wrp_changes.proofs.giving.frames.gift_of_departure.Goals as goal

pub returns-in-Some : goal.returns-in-Some
returns-in-Some c =
    let stamped = ap (λ z. record { value = z; sample = c.clock.result.now.samples }) (read c.args.stamp (omega (arith, c.requires.stamp.greatest))) in
    departure_gives c.args.plant.now c.args.n c.args.port c.clock.result.now.samples c.args.stamp _ c.in-Some.place c.oldest_sending.result c.to_node.result c.requires.node
    (sym c.place_of.ensures.value ∙ c.in-Some.is) stamped c.to_node.ensures
    (c.oldest_sending.ensures.fits c.args.plant.now.net.cfg c.args.n
    (has_placed c.args.plant.now.net.cfg c.args.n c.args.port _ (sym c.place_of.ensures.value ∙ c.in-Some.is))
    (subst IsStamp (sym stamped) (stamp_fits c.args.stamp c.clock.result.now.samples c.requires.stamp)))
    (λ s w h. ap (λ (clock : ClockState). clock.samples) (c.clock.ensures.value s w h))
    (λ s w h. c.oldest_sending.ensures.is (w.end_at c.in-Some.place.link c.in-Some.place.role) (c.end.ensures s w h))

pub returns-in-None : goal.returns-in-None
returns-in-None c = no_departure_gives c.args.plant.now c.args.n c.args.port c.args.stamp (sym c.place_of.ensures.value ∙ c.in-None.is)
