-- Each kind of event: what its premises need, and what they report.
use Rattle.std.proofs.Common.{◌∙◌, ap, ap₂, Err, arith}
use Rattle.wrp_frame.specs.declared.fault.FrameFault.TheVariants.{Short}
use Rattle.wrp_course.specs.Checks.{told_of}
use Rattle.wrp_course.specs.declared.event.Event.TheVariants.{Depart, Join, Pass, Up}
use Rattle.wrp_course.specs.Premises.{checks_of}
use Rattle.wrp_world.proofs.Breaches.{breach_as, delay_small, event_as, span_read}
use Rattle.wrp_world.proofs.Inside.{event_within, fits_within, plant_is}
use Rattle.wrp_plant.proofs.SignedReads.{read}
use Rattle.wrp_world.proofs.world.World.broken.Goals as goal

pub pass_broken-requires-clause-valid : goal.pass_broken-requires-clause-valid
pass_broken-requires-clause-valid g c = c.requires.valid

pub pass_broken-requires-clause-pass : goal.pass_broken-requires-clause-pass
pass_broken-requires-clause-pass g c =
    let event = event_as c.args.self.now.plant.net.cfg _ _ c.in-Pass.is c.requires.event.event in
    rw (span_read c.args.self.now.plant.net.cfg c.in-Pass.dt c.in-Pass.drifts.items c.in-Pass.fibres.items event) event

pub tick_broken-requires-clause-fits : goal.tick_broken-requires-clause-fits
tick_broken-requires-clause-fits g c = fits_within c.self.inside.plant c.self.inside.nodes.items c.args.self.now c.self.view_is c.requires.valid.plant

pub tick_broken-requires-clause-node : goal.tick_broken-requires-clause-node
tick_broken-requires-clause-node g c = event_within c.self.inside.plant c.self.inside.nodes.items c.args.self.now _ _ c.self.view_is c.in-Tick.is c.requires.event.event

pub sample_broken-requires-clause-fits : goal.sample_broken-requires-clause-fits
sample_broken-requires-clause-fits g c = fits_within c.self.inside.plant c.self.inside.nodes.items c.args.self.now c.self.view_is c.requires.valid.plant

pub sample_broken-requires-clause-node : goal.sample_broken-requires-clause-node
sample_broken-requires-clause-node g c = (event_within c.self.inside.plant c.self.inside.nodes.items c.args.self.now _ _ c.self.view_is c.in-Sample.is c.requires.event.event).0

pub sample_broken-requires-clause-base : goal.sample_broken-requires-clause-base
sample_broken-requires-clause-base g c =
    let event = event_within c.self.inside.plant c.self.inside.nodes.items c.args.self.now _ _ c.self.view_is c.in-Sample.is c.requires.event.event in
    omega (arith, event.1)

pub depart_broken-requires-clause-fits : goal.depart_broken-requires-clause-fits
depart_broken-requires-clause-fits g c = fits_within c.self.inside.plant c.self.inside.nodes.items c.args.self.now c.self.view_is c.requires.valid.plant

pub depart_broken-requires-clause-node : goal.depart_broken-requires-clause-node
depart_broken-requires-clause-node g c = (event_within c.self.inside.plant c.self.inside.nodes.items c.args.self.now _ _ c.self.view_is c.in-Depart.is c.requires.event.event).0

pub depart_broken-requires-clause-stamp : goal.depart_broken-requires-clause-stamp
depart_broken-requires-clause-stamp g c =
    let event = event_within c.self.inside.plant c.self.inside.nodes.items c.args.self.now _ _ c.self.view_is c.in-Depart.is c.requires.event.event in
    rw (read c.in-Depart.stamp (omega (arith, event.1.greatest))) event.1.greatest

pub arrive_broken-requires-clause-fits : goal.arrive_broken-requires-clause-fits
arrive_broken-requires-clause-fits g c = fits_within c.self.inside.plant c.self.inside.nodes.items c.args.self.now c.self.view_is c.requires.valid.plant

pub arrive_broken-requires-clause-raw : goal.arrive_broken-requires-clause-raw
arrive_broken-requires-clause-raw g c = event_within c.self.inside.plant c.self.inside.nodes.items c.args.self.now _ _ c.self.view_is c.in-Arrive.is c.requires.event.event

pub deliver_broken-requires : goal.deliver_broken-requires
deliver_broken-requires g c = fits_within c.self.inside.plant c.self.inside.nodes.items c.args.self.now c.self.view_is c.requires.valid.plant

pub noise_broken-requires : goal.noise_broken-requires
noise_broken-requires g c = fits_within c.self.inside.plant c.self.inside.nodes.items c.args.self.now c.self.view_is c.requires.valid.plant

pub down_broken-requires-clause-fits : goal.down_broken-requires-clause-fits
down_broken-requires-clause-fits g c = fits_within c.self.inside.plant c.self.inside.nodes.items c.args.self.now c.self.view_is c.requires.valid.plant

pub down_broken-requires-clause-node : goal.down_broken-requires-clause-node
down_broken-requires-clause-node g c = event_within c.self.inside.plant c.self.inside.nodes.items c.args.self.now _ _ c.self.view_is c.in-Down.is c.requires.event.event

pub up_broken-requires-clause-fits : goal.up_broken-requires-clause-fits
up_broken-requires-clause-fits g c = fits_within c.self.inside.plant c.self.inside.nodes.items c.args.self.now c.self.view_is c.requires.valid.plant

pub up_broken-requires-clause-node : goal.up_broken-requires-clause-node
up_broken-requires-clause-node g c = (event_within c.self.inside.plant c.self.inside.nodes.items c.args.self.now _ _ c.self.view_is c.in-Up.is c.requires.event.event).0

pub up_broken-requires-clause-off : goal.up_broken-requires-clause-off
up_broken-requires-clause-off g c =
    let event = event_within c.self.inside.plant c.self.inside.nodes.items c.args.self.now _ _ c.self.view_is c.in-Up.is c.requires.event.event in
    rw (read c.in-Up.off (omega (arith, event.1))) event.1

pub cut_broken-requires-clause-fits : goal.cut_broken-requires-clause-fits
cut_broken-requires-clause-fits g c = fits_within c.self.inside.plant c.self.inside.nodes.items c.args.self.now c.self.view_is c.requires.valid.plant

pub cut_broken-requires-clause-link : goal.cut_broken-requires-clause-link
cut_broken-requires-clause-link g c = event_within c.self.inside.plant c.self.inside.nodes.items c.args.self.now _ _ c.self.view_is c.in-Cut.is c.requires.event.event

pub join_broken-requires-clause-fits : goal.join_broken-requires-clause-fits
join_broken-requires-clause-fits g c = fits_within c.self.inside.plant c.self.inside.nodes.items c.args.self.now c.self.view_is c.requires.valid.plant

pub join_broken-requires-clause-link : goal.join_broken-requires-clause-link
join_broken-requires-clause-link g c = (event_within c.self.inside.plant c.self.inside.nodes.items c.args.self.now _ _ c.self.view_is c.in-Join.is c.requires.event.event).0

pub join_broken-requires-clause-ms : goal.join_broken-requires-clause-ms
join_broken-requires-clause-ms g c =
    let event = event_within c.self.inside.plant c.self.inside.nodes.items c.args.self.now _ _ c.self.view_is c.in-Join.is c.requires.event.event in
    let small = delay_small c.in-Join.ms event.1 in
    rw (read c.in-Join.ms (omega (arith, small))) small

pub join_broken-requires-clause-sm : goal.join_broken-requires-clause-sm
join_broken-requires-clause-sm g c =
    let event = event_within c.self.inside.plant c.self.inside.nodes.items c.args.self.now _ _ c.self.view_is c.in-Join.is c.requires.event.event in
    let small = delay_small c.in-Join.sm event.2 in
    rw (read c.in-Join.sm (omega (arith, small))) small

pub returns-in-Pass : goal.returns-in-Pass
returns-in-Pass g c =
    breach_as _ _ _ _ _ c.in-Pass.is (
      Err Short,
      tt,
      λ s w h.
          c.pass_broken.ensures s w (Err Short) h
          ∙ ap (λ t. told_of (checks_of s w (Err Short) (Pass t c.in-Pass.drifts c.in-Pass.fibres)))
          (span_read c.args.self.now.plant.net.cfg c.in-Pass.dt c.in-Pass.drifts.items c.in-Pass.fibres.items (event_as c.args.self.now.plant.net.cfg _ _ c.in-Pass.is c.requires.event.event)),
    )

pub returns-in-Tick : goal.returns-in-Tick
returns-in-Tick g c =
    breach_as _ _ _ _ _ c.in-Tick.is (Err Short, tt, λ s w h. c.tick_broken.ensures s w (plant_is _ s w c.args.self.now c.self.inside.plant c.self.inside.nodes.items c.self.view_is h))

pub returns-in-Sample : goal.returns-in-Sample
returns-in-Sample g c =
    breach_as _ _ _ _ _ c.in-Sample.is (Err Short, tt, λ s w h. c.sample_broken.ensures s w (plant_is _ s w c.args.self.now c.self.inside.plant c.self.inside.nodes.items c.self.view_is h))

pub returns-in-Depart : goal.returns-in-Depart
returns-in-Depart g c =
    breach_as _ _ _ _ _ c.in-Depart.is (
      Err Short,
      tt,
      λ s w h.
          let event = event_as c.args.self.now.plant.net.cfg _ _ c.in-Depart.is c.requires.event.event in
          c.depart_broken.ensures s w (Err Short) (plant_is _ s w c.args.self.now c.self.inside.plant c.self.inside.nodes.items c.self.view_is h)
          ∙ ap (λ t. told_of (checks_of s w (Err Short) (Depart c.in-Depart.node c.in-Depart.port t))) (read c.in-Depart.stamp (omega (arith, event.1.greatest))),
    )

pub returns-in-Arrive : goal.returns-in-Arrive
returns-in-Arrive g c =
    breach_as _ _ _ _ _ c.in-Arrive.is (Err Short, tt, λ s w h. c.arrive_broken.ensures s w (Err Short) (plant_is _ s w c.args.self.now c.self.inside.plant c.self.inside.nodes.items c.self.view_is h))

pub returns-in-Deliver : goal.returns-in-Deliver
returns-in-Deliver g c =
    breach_as _ _ _ _ _ c.in-Deliver.is (Err Short, tt, λ s w h. c.deliver_broken.ensures s w (plant_is _ s w c.args.self.now c.self.inside.plant c.self.inside.nodes.items c.self.view_is h))

pub returns-in-Noise : goal.returns-in-Noise
returns-in-Noise g c =
    breach_as _ _ _ _ _ c.in-Noise.is (c.noise_broken.ensures.0, c.noise_broken.ensures.1, λ s w h. c.noise_broken.ensures.2 s w (plant_is _ s w c.args.self.now c.self.inside.plant c.self.inside.nodes.items c.self.view_is h) (h.set c.in-Noise.node))

pub returns-in-Down : goal.returns-in-Down
returns-in-Down g c =
    breach_as _ _ _ _ _ c.in-Down.is (Err Short, tt, λ s w h. c.down_broken.ensures s w (plant_is _ s w c.args.self.now c.self.inside.plant c.self.inside.nodes.items c.self.view_is h))

pub returns-in-Up : goal.returns-in-Up
returns-in-Up g c =
    breach_as _ _ _ _ _ c.in-Up.is (
      Err Short,
      tt,
      λ s w h.
          let event = event_as c.args.self.now.plant.net.cfg _ _ c.in-Up.is c.requires.event.event in
          c.up_broken.ensures s w (Err Short) (plant_is _ s w c.args.self.now c.self.inside.plant c.self.inside.nodes.items c.self.view_is h)
          ∙ ap (λ t. told_of (checks_of s w (Err Short) (Up c.in-Up.node t c.in-Up.swaps))) (read c.in-Up.off (omega (arith, event.1))),
    )

pub returns-in-Cut : goal.returns-in-Cut
returns-in-Cut g c =
    breach_as _ _ _ _ _ c.in-Cut.is (Err Short, tt, λ s w h. c.cut_broken.ensures s w (plant_is _ s w c.args.self.now c.self.inside.plant c.self.inside.nodes.items c.self.view_is h))

pub returns-in-Join : goal.returns-in-Join
returns-in-Join g c =
    breach_as _ _ _ _ _ c.in-Join.is (
      Err Short,
      tt,
      λ s w h.
          let event = event_as c.args.self.now.plant.net.cfg _ _ c.in-Join.is c.requires.event.event in
          c.join_broken.ensures s w (Err Short) (plant_is _ s w c.args.self.now c.self.inside.plant c.self.inside.nodes.items c.self.view_is h)
          ∙ ap₂ (λ a b. told_of (checks_of s w (Err Short) (Join c.in-Join.link a b)))
          (read c.in-Join.ms (omega (arith, delay_small c.in-Join.ms event.1))) (read c.in-Join.sm (omega (arith, delay_small c.in-Join.sm event.2))),
    )
