use Rattle.std.proofs.Common.{subst, ℤ}
use Rattle.wrp_course.specs.declared.event.Event.TheVariants.{Depart}
use Rattle.wrp_changes.specs.Giving.{Gives}
use Rattle.wrp_changes.proofs.Departing.{on_ok}
use Rattle.wrp_changes.proofs.Listing.{given_as}
use Rattle.wrp_changes.proofs.FrameGifts.{stamp_small}
use Rattle.wrp_plant.proofs.SignedReads.{read}
use Rattle.wrp_changes.proofs.giving.give_by.Goals as goal

pub returns-in-Tick : goal.returns-in-Tick
returns-in-Tick c = on_ok c.list_tick.result c.list_tick.ensures (λ h. given_as c.args.plant.now _ _ _ c.in-Tick.is h)

pub returns-in-Sample : goal.returns-in-Sample
returns-in-Sample c = on_ok c.list_sample.result c.list_sample.ensures (λ h. given_as c.args.plant.now _ _ _ c.in-Sample.is h)

pub returns-in-Depart : goal.returns-in-Depart
returns-in-Depart c =
    on_ok c.list_departure.result c.list_departure.ensures (λ h. given_as c.args.plant.now _ _ _ c.in-Depart.is
    (subst (λ (z : ℤ). Gives c.args.plant.now (Depart c.in-Depart.node c.in-Depart.port z) c.list_departure.new.outs.items)
    (read c.in-Depart.stamp (stamp_small c.args.plant.now.net.cfg c.args.event.now c.in-Depart.node c.in-Depart.port c.in-Depart.stamp c.in-Depart.is c.requires.event))
    h))

pub returns-in-Deliver : goal.returns-in-Deliver
returns-in-Deliver c = on_ok c.list_frame.result c.list_frame.ensures (λ h. given_as c.args.plant.now _ _ _ c.in-Deliver.is h)

pub returns-in-Noise : goal.returns-in-Noise
returns-in-Noise c = on_ok c.list_noise.result c.list_noise.ensures (λ h. given_as c.args.plant.now _ _ _ c.in-Noise.is h)

pub returns-in-Up : goal.returns-in-Up
returns-in-Up c = on_ok c.give_up.result c.give_up.ensures (λ h. given_as c.args.plant.now _ _ _ c.in-Up.is (h c.in-Up.off))

pub returns-in-Join : goal.returns-in-Join
returns-in-Join c = on_ok c.give_join.result c.give_join.ensures (λ h. given_as c.args.plant.now _ _ _ c.in-Join.is (h c.in-Join.ms c.in-Join.sm))
