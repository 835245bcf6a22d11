-- What an event changes by itself is a change of each link that may come: time passes, or a node starts.
use Rattle.std.proofs.Common.{◌≡◌, ◌∙◌, refl, ap, ℕ, ◌+◌, ◌==◌, ℤ, pos, ◌+ℤ◌, ◌≤ℤ◌, unsigned_abs, Bool, true, false, if◌then◌else◌, Option, arith}
use Rattle.std.proofs.lemmas.Int.{ints}
use Rattle.wrp_base.specs.declared.link.Module.{Module}
use Rattle.wrp_base.specs.declared.link.Role.{Role}
use Rattle.wrp_base.specs.declared.link.Role.TheVariants.{Master, Slave}
use Rattle.wrp_network.specs.declared.network.LinkCfg.{LinkCfg}
use Rattle.wrp_network.specs.Network.{End}
use Rattle.wrp_bounds.specs.Times.{shortest_tick, frame_life}
use Rattle.wrp_handshake_laws.specs.Ends.{Port, BothPorts, Passes, Starts, with_end, end_of as port_of}
use Rattle.wrp_course.specs.declared.clocks.ClockState.{ClockState}
use Rattle.wrp_course.specs.declared.event.Event.{Event}
use Rattle.wrp_course.specs.declared.event.Event.TheVariants.{Pass, Tick, Sample, Depart, Arrive, Deliver, Noise, Down, Up, Cut, Join}
use Rattle.wrp_course.specs.Moved.{moved}
use Rattle.wrp_course.specs.LinkEnds.{ends_at, link_sent, port_at}
use Rattle.wrp_course.specs.Setting.{Setting, end_of}
use Rattle.wrp_course.specs.WorldAt.{WorldAt}
use Rattle.wrp_course.proofs.RunFrames.{moved_marks, moved_sent}
use Rattle.wrp_course.proofs.RunGiven.{CanHave, LinkCan, one_more, with_ports}
use Rattle.wrp_course.proofs.RunPorts.{port_is}

-- the last tick, or start, of a node after an event by itself
abbrev pub ticked_after : WorldAt → Event → ℕ → ℤ
ticked_after w (Up n off swaps) m = if m == n then w.time else (w.clock m).ticked
ticked_after w _ m = (w.clock m).ticked

pub ticked_where : (b : Bool) (c d : ClockState) → (if b then c else d).ticked ≡ (if b then c.ticked else d.ticked)
ticked_where true c d = refl
ticked_where false c d = refl

either_same : (b : Bool) (t : ℤ) → (if b then t else t) ≡ t
either_same true t = refl
either_same false t = refl

pub moved_ticked : (s : Setting) (w : WorldAt) (e : Event) (m : ℕ) → ((moved s w e).clock m).ticked ≡ ticked_after w e m
moved_ticked s w (Sample n base bits) m =
    ticked_where (m == n) (record (w.clock m) { samples = (w.clock m).samples + 1 }) (w.clock m) ∙ either_same (m == n) (w.clock m).ticked
moved_ticked s w (Down n) m = ticked_where (m == n) (record (w.clock m) { up = false }) (w.clock m) ∙ either_same (m == n) (w.clock m).ticked
moved_ticked s w (Up n off swaps) m =
    ticked_where (m == n) (record { up = true; off = off; ticked = w.time; samples = 0 }) (w.clock m)
moved_ticked s w _ m = refl

abbrev with_tick : Port → ℤ → Port
with_tick q t = record q { ticked = t }

moved_port : (s : Setting) (w : WorldAt) (e : Event) (k : ℕ) (r : Role) (end : End) → port_at s (moved s w e) k r end ≡ with_tick (port_at s w k r end) (ticked_after w e end.node)
moved_port s w e k r end =
    port_is (port_at s (moved s w e) k r end) (with_tick (port_at s w k r end) (ticked_after w e end.node))
    refl (moved_ticked s w e end.node) (moved_marks s w e k r) (ap link_sent (moved_sent s w e k r))

-- The nodes of a link that start

starts_if : (life dmin : ℕ) (placed : Role → Option Module) (ends : BothPorts) (role : Role) (b : Bool) → CanHave life dmin placed ends →
    CanHave life dmin placed (with_end ends role (with_tick (port_of ends role) (if b then ends.time else (port_of ends role).ticked)))
starts_if life dmin placed ends Master true can = one_more life dmin placed ends (Starts Master) tt can tt
starts_if life dmin placed ends Master false can = can
starts_if life dmin placed ends Slave true can = one_more life dmin placed ends (Starts Slave) tt can tt
starts_if life dmin placed ends Slave false can = can

-- Time

passed : (t dt : ℤ) → pos 1 ≤ℤ dt → t +ℤ dt ≡ t +ℤ pos (unsigned_abs dt)
passed t dt h = omega (arith, ints)

-- time does not fall
abbrev pub TimeRises : Event → Type 0
TimeRises (Pass dt drifts fibres) = pos 1 ≤ℤ dt
TimeRises _ = Unit {0}

pub moved_can : (s : Setting) (placed : Role → Option Module) (w : WorldAt) (e : Event) (k : ℕ) (link : LinkCfg) → TimeRises e → LinkCan s placed w k link → LinkCan s placed (moved s w e) k link
moved_can s placed w (Pass dt drifts fibres) k link h can =
    with_ports s placed (moved s w (Pass dt drifts fibres)) k link (w.time +ℤ pos (unsigned_abs dt)) _ _ (passed w.time dt h)
    (moved_port s w (Pass dt drifts fibres) k Master (end_of Master link)) (moved_port s w (Pass dt drifts fibres) k Slave (end_of Slave link))
    (one_more (frame_life s.cfg) (shortest_tick s.cfg) placed (ends_at s w k link) (Passes (unsigned_abs dt)) tt can tt)
moved_can s placed w (Up n off swaps) k link h can =
    with_ports s placed (moved s w (Up n off swaps)) k link w.time _ _ refl
    (moved_port s w (Up n off swaps) k Master (end_of Master link)) (moved_port s w (Up n off swaps) k Slave (end_of Slave link))
    (starts_if (frame_life s.cfg) (shortest_tick s.cfg) placed (with_end (ends_at s w k link) Master (with_tick (port_at s w k Master (end_of Master link)) (if link.upper == n then w.time else (w.clock link.upper).ticked))) Slave (link.lower == n)
    (starts_if (frame_life s.cfg) (shortest_tick s.cfg) placed (ends_at s w k link) Master (link.upper == n) can))
moved_can s placed w (Tick n) k link h can =
    with_ports s placed (moved s w (Tick n)) k link w.time _ _ refl (moved_port s w (Tick n) k Master (end_of Master link)) (moved_port s w (Tick n) k Slave (end_of Slave link)) can
moved_can s placed w (Sample n base bits) k link h can =
    with_ports s placed (moved s w (Sample n base bits)) k link w.time _ _ refl (moved_port s w (Sample n base bits) k Master (end_of Master link)) (moved_port s w (Sample n base bits) k Slave (end_of Slave link)) can
moved_can s placed w (Depart n p stamp) k link h can =
    with_ports s placed (moved s w (Depart n p stamp)) k link w.time _ _ refl (moved_port s w (Depart n p stamp) k Master (end_of Master link)) (moved_port s w (Depart n p stamp) k Slave (end_of Slave link)) can
moved_can s placed w (Arrive j raw) k link h can =
    with_ports s placed (moved s w (Arrive j raw)) k link w.time _ _ refl (moved_port s w (Arrive j raw) k Master (end_of Master link)) (moved_port s w (Arrive j raw) k Slave (end_of Slave link)) can
moved_can s placed w (Deliver j) k link h can =
    with_ports s placed (moved s w (Deliver j)) k link w.time _ _ refl (moved_port s w (Deliver j) k Master (end_of Master link)) (moved_port s w (Deliver j) k Slave (end_of Slave link)) can
moved_can s placed w (Noise n p octets raw) k link h can =
    with_ports s placed (moved s w (Noise n p octets raw)) k link w.time _ _ refl (moved_port s w (Noise n p octets raw) k Master (end_of Master link)) (moved_port s w (Noise n p octets raw) k Slave (end_of Slave link)) can
moved_can s placed w (Down n) k link h can =
    with_ports s placed (moved s w (Down n)) k link w.time _ _ refl (moved_port s w (Down n) k Master (end_of Master link)) (moved_port s w (Down n) k Slave (end_of Slave link)) can
moved_can s placed w (Cut l) k link h can =
    with_ports s placed (moved s w (Cut l)) k link w.time _ _ refl (moved_port s w (Cut l) k Master (end_of Master link)) (moved_port s w (Cut l) k Slave (end_of Slave link)) can
moved_can s placed w (Join l ms sm) k link h can =
    with_ports s placed (moved s w (Join l ms sm)) k link w.time _ _ refl (moved_port s w (Join l ms sm) k Master (end_of Master link)) (moved_port s w (Join l ms sm) k Slave (end_of Slave link)) can
