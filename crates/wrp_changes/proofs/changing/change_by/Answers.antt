-- Each kind of event changes what its own function changes.
use Rattle.std.proofs.Common.{◌≡◌, ◌≤◌, ◌≤ℤ◌, ◌^◌, ◌+◌, ◌-◌, ℕ, ℤ, pos, unsigned_abs, to_z, of_z, sym, subst, OnOk, Result, Ok, Err, arith}
use Rattle.std.proofs.lemmas.Int.{ints, to_z-of_z, fits_signed_from_abs}
use Rattle.std.specs.Int.{w64, w128}
use Rattle.wrp_course.specs.declared.event.Event.{Event}
use Rattle.wrp_course.specs.declared.event.Event.TheVariants.{Pass, Depart, Up, Join}
use Rattle.wrp_plant.specs.declared.plant.Plant.{Plant}
use Rattle.wrp_changes.specs.Changes.{Changes}
use Rattle.wrp_course.specs.EventAt.{IsEventOf}
use Rattle.wrp_course.specs.Moved.{moved}
use Rattle.wrp_plant.specs.Plant.{FitsPlant, PlantIs}
use Rattle.wrp_changes.specs.Room.{HasRoom}
use Rattle.wrp_course.specs.Setting.{Setting}
use Rattle.wrp_course.specs.WorldAt.{WorldAt}
use Rattle.wrp_changes.proofs.changing.change_by.Goals as goal

small : (a : ℤ) → pos 1 ≤ℤ a → a ≤ℤ pos 9_223_372_036_854_775_807 → unsigned_abs a ≤ 2 ^ 63 - 1
small a h k = omega (arith, ints)

delay_size : (a : ℤ) → pos 0 ≤ℤ a → a ≤ℤ pos 9_223_372_036_854_775_807 → unsigned_abs a ≤ 2 ^ 127 - 1
delay_size a h k = omega (arith, ints)

off_size : (a : ℤ) → unsigned_abs a ≤ 2 ^ 90 → unsigned_abs a ≤ 2 ^ 127 - 1
off_size a h = omega arith

read_64 : (a : ℤ) → unsigned_abs a ≤ 2 ^ 63 - 1 → to_z w64 (of_z w64 a) ≡ a
read_64 a h = to_z-of_z w64 a (fits_signed_from_abs w64 a (omega (arith, h)))

read_128 : (a : ℤ) → unsigned_abs a ≤ 2 ^ 127 - 1 → to_z w128 (of_z w128 a) ≡ a
read_128 a h = to_z-of_z w128 a (fits_signed_from_abs w128 a (omega (arith, h)))

abbrev Is : Event → Plant → Plant → Type 0
Is e old new = (s : Setting) (w : WorldAt) → PlantIs s w old → PlantIs s (moved s w e) new

departs : {A E : Type 0} (r : Result A E) (n p : ℕ) (stamp : ℤ) (old new : Plant) →
    OnOk r ((s : Setting) (w : WorldAt) (at : ℤ) → PlantIs s w old → PlantIs s (moved s w (Depart n p at)) new) → OnOk r (FitsPlant new) →
    OnOk r ((k : ℕ) → HasRoom k old → HasRoom k new) → OnOk r (new.net ≡ old.net) → OnOk r (new.events ≡ old.events + 1) → OnOk r (Changes (Depart n p stamp) old new)
departs (Ok x) n p stamp old new a b c d f = record { is = λ s w m h. a s w stamp h; fits = b; room = c; net = d; events = f; steps = tt }
departs (Err x) n p stamp old new a b c d f = tt

of_event : (e f : Event) (old new : Plant) → e ≡ f → Changes f old new → Changes e old new
of_event e f old new is h = subst (λ x. Changes x old new) (sym is) h

later : (a b : ℤ) → b ≡ a → pos 1 ≤ℤ a → pos 0 ≤ℤ b
later a b e h = omega (arith, ints, e)

pub pass-requires-clause-later : goal.pass-requires-clause-later
pass-requires-clause-later c =
    let event : IsEventOf c.args.plant.now.net.cfg (Pass c.in-Pass.dt c.in-Pass.drifts c.in-Pass.fibres) = subst (IsEventOf c.args.plant.now.net.cfg) c.in-Pass.is c.requires.event in
    later c.in-Pass.dt _ (read_64 c.in-Pass.dt (small c.in-Pass.dt event.span.0 event.span.1)) event.span.0

pub returns-in-Pass-clause-ok : goal.returns-in-Pass-clause-ok
returns-in-Pass-clause-ok c =
    let event : IsEventOf c.args.plant.now.net.cfg (Pass c.in-Pass.dt c.in-Pass.drifts c.in-Pass.fibres) = subst (IsEventOf c.args.plant.now.net.cfg) c.in-Pass.is c.requires.event in
    let dt : to_z w64 (of_z w64 c.in-Pass.dt) ≡ c.in-Pass.dt = read_64 c.in-Pass.dt (small c.in-Pass.dt event.span.0 event.span.1) in
    of_event c.args.event.now _ c.args.plant.now c.pass.new.plant c.in-Pass.is
    (record {
      is = λ s w m h. subst (λ d. Is (Pass d c.in-Pass.drifts c.in-Pass.fibres) c.args.plant.now c.pass.new.plant) dt c.pass.ensures.is s w h;
      fits = c.pass.ensures.fits;
      room = c.pass.ensures.room;
      net = c.pass.ensures.net;
      events = c.pass.ensures.events;
      steps = tt;
    })

pub returns-in-Tick-clause-ok : goal.returns-in-Tick-clause-ok
returns-in-Tick-clause-ok c =
    of_event c.args.event.now _ c.args.plant.now c.stay.new.plant c.in-Tick.is
    (record { is = λ s w m h. c.stay.ensures.tick s w c.in-Tick.node h; fits = c.stay.ensures.fits; room = c.stay.ensures.room; net = c.stay.ensures.net; events = c.stay.ensures.events; steps = tt })

pub returns-in-Sample-clause-ok : goal.returns-in-Sample-clause-ok
returns-in-Sample-clause-ok c =
    of_event c.args.event.now _ c.args.plant.now c.sample.new.plant c.in-Sample.is
    (record { is = λ s w m h. c.sample.ensures.is s w c.in-Sample.base c.in-Sample.bits h; fits = c.sample.ensures.fits; room = c.sample.ensures.room; net = c.sample.ensures.net; events = c.sample.ensures.events; steps = tt })

pub returns-in-Depart-clause-ok : goal.returns-in-Depart-clause-ok
returns-in-Depart-clause-ok c =
    subst (λ e. OnOk c.depart.result (Changes e c.args.plant.now c.depart.new.plant)) (sym c.in-Depart.is)
    (departs c.depart.result c.in-Depart.node c.in-Depart.port c.in-Depart.stamp c.args.plant.now c.depart.new.plant c.depart.ensures.is c.depart.ensures.fits c.depart.ensures.room c.depart.ensures.net c.depart.ensures.events)

pub returns-in-Arrive-clause-ok : goal.returns-in-Arrive-clause-ok
returns-in-Arrive-clause-ok c =
    of_event c.args.event.now _ c.args.plant.now c.arrive.new.plant c.in-Arrive.is
    (record { is = c.arrive.ensures.is; fits = c.arrive.ensures.fits; room = c.arrive.ensures.room; net = c.arrive.ensures.net; events = c.arrive.ensures.events; steps = tt })

pub returns-in-Deliver-clause-ok : goal.returns-in-Deliver-clause-ok
returns-in-Deliver-clause-ok c =
    of_event c.args.event.now _ c.args.plant.now c.stay-in-Deliver.new.plant c.in-Deliver.is
    (record { is = λ s w m h. c.stay-in-Deliver.ensures.deliver s w c.in-Deliver.frame h; fits = c.stay-in-Deliver.ensures.fits; room = c.stay-in-Deliver.ensures.room; net = c.stay-in-Deliver.ensures.net; events = c.stay-in-Deliver.ensures.events; steps = c.stay-in-Deliver.ensures.still })

pub returns-in-Noise-clause-ok : goal.returns-in-Noise-clause-ok
returns-in-Noise-clause-ok c =
    of_event c.args.event.now _ c.args.plant.now c.stay-in-Noise.new.plant c.in-Noise.is
    (record { is = λ s w m h. c.stay-in-Noise.ensures.noise s w c.in-Noise.node c.in-Noise.port c.in-Noise.bytes c.in-Noise.raw h; fits = c.stay-in-Noise.ensures.fits; room = c.stay-in-Noise.ensures.room; net = c.stay-in-Noise.ensures.net; events = c.stay-in-Noise.ensures.events; steps = c.stay-in-Noise.ensures.still })

pub returns-in-Down-clause-ok : goal.returns-in-Down-clause-ok
returns-in-Down-clause-ok c =
    of_event c.args.event.now _ c.args.plant.now c.go_down.new.plant c.in-Down.is
    (record { is = λ s w m h. c.go_down.ensures.is s w h; fits = c.go_down.ensures.fits; room = c.go_down.ensures.room; net = c.go_down.ensures.net; events = c.go_down.ensures.events; steps = tt })

pub returns-in-Up-clause-ok : goal.returns-in-Up-clause-ok
returns-in-Up-clause-ok c =
    let event : IsEventOf c.args.plant.now.net.cfg (Up c.in-Up.node c.in-Up.off c.in-Up.swaps) = subst (IsEventOf c.args.plant.now.net.cfg) c.in-Up.is c.requires.event in
    let off : to_z w128 (of_z w128 c.in-Up.off) ≡ c.in-Up.off = read_128 c.in-Up.off (off_size c.in-Up.off event.1) in
    of_event c.args.event.now _ c.args.plant.now c.come_up.new.plant c.in-Up.is
    (record {
      is = λ s w m h. subst (λ d. Is (Up c.in-Up.node d c.in-Up.swaps) c.args.plant.now c.come_up.new.plant) off c.come_up.ensures.is s w h;
      fits = c.come_up.ensures.fits;
      room = c.come_up.ensures.room;
      net = c.come_up.ensures.net;
      events = c.come_up.ensures.events;
      steps = tt;
    })

pub returns-in-Cut-clause-ok : goal.returns-in-Cut-clause-ok
returns-in-Cut-clause-ok c =
    of_event c.args.event.now _ c.args.plant.now c.cut.new.plant c.in-Cut.is
    (record { is = λ s w m h. c.cut.ensures.is s w h; fits = c.cut.ensures.fits; room = c.cut.ensures.room; net = c.cut.ensures.net; events = c.cut.ensures.events; steps = tt })

pub returns-in-Join-clause-ok : goal.returns-in-Join-clause-ok
returns-in-Join-clause-ok c =
    let event : IsEventOf c.args.plant.now.net.cfg (Join c.in-Join.link c.in-Join.ms c.in-Join.sm) = subst (IsEventOf c.args.plant.now.net.cfg) c.in-Join.is c.requires.event in
    let ms : to_z w128 (of_z w128 c.in-Join.ms) ≡ c.in-Join.ms = read_128 c.in-Join.ms (delay_size c.in-Join.ms event.1.0 event.1.1) in
    let sm : to_z w128 (of_z w128 c.in-Join.sm) ≡ c.in-Join.sm = read_128 c.in-Join.sm (delay_size c.in-Join.sm event.2.0 event.2.1) in
    of_event c.args.event.now _ c.args.plant.now c.join.new.plant c.in-Join.is
    (record {
      is = λ s w m h.
          subst (λ d. Is (Join c.in-Join.link d c.in-Join.sm) c.args.plant.now c.join.new.plant) ms
          (subst (λ d. Is (Join c.in-Join.link (to_z w128 (of_z w128 c.in-Join.ms)) d) c.args.plant.now c.join.new.plant) sm c.join.ensures.is) s w h;
      fits = c.join.ensures.fits;
      room = c.join.ensures.room;
      net = c.join.ensures.net;
      events = c.join.ensures.events;
      steps = tt;
    })
