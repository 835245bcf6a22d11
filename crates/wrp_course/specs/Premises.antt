-- The thirteen premises under which an event may come, each with its two sides: 1 TickEarly, 2 TickLate, 3 Rate,
-- 4 FibreRate, 5 Fibre, 6 Module, 7 TxStamp, 8 RxRaw, 9 Beat, 10 TooOld, 11 NotSent, 12 Forged, 13 NotUp (this project's
-- profile). Times are in tau.
use Rattle.std.specs.Prelude.{ℕ, ℤ, pos, ◌+◌, ◌*◌, ◌/◌, ◌^◌, ◌==◌, ◌&&◌, ◌||◌, ◌+ℤ◌, ◌-ℤ◌, ◌*ℤ◌, nat_le, nat_lt, not, unsigned_abs, Bool, true, false, if◌then◌else◌, List, [], ◌∷◌, ◌++◌, map, flat_map, Option, None, Some, Result, Ok, Err}
use Rattle.std.specs.Int.Signed.{le_z, lt_z}
use Rattle.std.specs.Option.{is_some, option_map_or}
use Rattle.wrp_base.specs.Circle.{distance_round}
use Rattle.wrp_base.specs.Clock.{period_of}
use Rattle.wrp_base.specs.Division.{floor_quotient}
use Rattle.wrp_network.specs.declared.configuration.NetCfg.{NetCfg}
use Rattle.wrp_base.specs.declared.link.Module.{Module}
use Rattle.wrp_base.specs.declared.link.Role.TheVariants.{Master, Slave}
use Rattle.wrp_base.specs.declared.message.PtpMsg.{PtpMsg}
use Rattle.wrp_network.specs.declared.network.LinkCfg.{LinkCfg}
use Rattle.wrp_base.specs.declared.time.Clock.{Clock}
use Rattle.wrp_base.specs.declared.time.Raw.{Raw}
use Rattle.wrp_network.specs.Network.{link_above}
use Rattle.wrp_base.specs.Link.{other_of}
use Rattle.wrp_base.specs.Message.{is_port}
use Rattle.wrp_bounds.specs.Times.{shortest_tick, longest_tick, frame_life, reach}
use Rattle.wrp_frame.specs.declared.fault.FrameFault.{FrameFault}
use Rattle.wrp_node.specs.NodeAt.{locked_of, state_of, port_of}
use Rattle.wrp_phase.specs.Beat.{beat_bit}
use Rattle.wrp_phase.specs.BeatPattern.{true_step, steps_past}
use Rattle.wrp_stamp.specs.Merge.{quarter_of, place_of as place_in_period, transition_of}
use Rattle.wrp_stamp.specs.StampBound.{true_place}
use Rattle.wrp_servo.specs.Sampling.{is_holdover}
use Rattle.wrp_course.specs.declared.event.Event.{Event}
use Rattle.wrp_course.specs.declared.event.Event.TheVariants.{Pass, Tick, Sample, Depart, Arrive, Deliver, Noise, Down, Up, Cut, Join}
use Rattle.wrp_course.specs.declared.event.Swap.{Swap}
use Rattle.wrp_course.specs.declared.clocks.ClockState.{ClockState}
use Rattle.wrp_course.specs.declared.fibres.FibreState.{FibreState}
use Rattle.wrp_course.specs.Checks.{Check, at_most, at_least, only_where, size_of, needs, not_sent, AllHold, first_broken}
use Rattle.wrp_course.specs.Moved.{moved, waiting_at, drift_of, move_of}
use Rattle.wrp_course.specs.declared.place.Place.{Place}
use Rattle.wrp_course.specs.Setting.{Setting, above, end_at, entry_at, node_setting_of, from_on, link_of, links_of, nodes_of, of_node, place_of}
use Rattle.wrp_course.specs.WorldAt.{WorldAt, FrameAt, Arrival, Sending, delay_from, has_carrier, is_on_fibre, phase_of, reading}

-- rates are in 10^-12
abbrev pub parts : ℕ
parts = 1_000_000_000_000

-- 1, TickEarly: no tick comes sooner than dmin after the node's last tick, or after its Up
abbrev pub early_by : (least now : ℤ) → ClockState → Check
early_by least now clock = only_where clock.up (at_least 1 (now -ℤ clock.ticked) least)

-- the check of a node that is to tick now: time since its last tick or its Up, against dmin, both in tau
abbrev pub tick_early : Setting → WorldAt → ℕ → Check
tick_early s w n = early_by (pos (shortest_tick s.cfg)) w.time (w.clock n)

-- 2, TickLate: time does not pass to more than dmax after an up node's last tick, or its Up
abbrev pub late_by : (most after : ℤ) → ClockState → Check
late_by most after clock = only_where clock.up (at_most 2 (after -ℤ clock.ticked) most)

-- the check of a node before dt tau pass: the time since its last tick or its Up would then be at most dmax, both in tau
abbrev pub tick_late : Setting → WorldAt → ℤ → ℕ → Check
tick_late s w dt n = late_by (pos (longest_tick s.cfg)) (w.time +ℤ dt) (w.clock n)

-- 3, Rate: a clock that is locked keeps its slew, one in HOLDOVER its held, and the grandmaster's does not move

-- the rate that a node's clock keeps, if it keeps one
abbrev pub rate_of : Setting → WorldAt → ℕ → Option ℕ
rate_of s w n =
    if not (is_some (link_above s.cfg n)) then Some 0
    else (if not (w.clock n).up then None
    else (if locked_of (node_setting_of s n) (w.node n) then Some (of_node (λ node. node.slew) s n)
    else (if is_holdover (state_of (node_setting_of s n) (w.node n)) then Some (of_node (λ node. node.held) s n) else None)))

-- a move, in a time, at a rate: both sides with the factor 10^12
abbrev pub moves_at : ℕ → ℤ → ℤ → ℕ → Check
moves_at premise move dt rate = at_most premise (pos (unsigned_abs move * parts)) (pos (rate * unsigned_abs dt))

-- the check of a clock that drifts this far, in tau, while dt tau pass: no check if it has no rate to keep
abbrev pub rate_checks : ℤ → ℤ → Option ℕ → List Check
rate_checks drift dt None = []
rate_checks drift dt (Some rate) = moves_at 3 drift dt rate ∷ []

-- the check of a node's clock in a Pass: its drift, against the rate that the node's state requires of it
abbrev pub rate_kept : Setting → WorldAt → ℤ → List ℤ → ℕ → List Check
rate_kept s w dt drifts n = rate_checks (drift_of drifts n) dt (rate_of s w n)

-- the grandmaster comes up with true time
abbrev pub true_at_top : Setting → ℕ → ℤ → Check
true_at_top s n off = only_where (not (is_some (link_above s.cfg n))) (at_most 3 (size_of off) (pos 0))

-- 4, FibreRate: a one-way delay moves at most at a rate of 2; the way down comes first
abbrev pub rate_of_fibre : ℤ → ℤ × ℤ → List Check
rate_of_fibre dt move = moves_at 4 move.0 dt 2 ∷ (moves_at 4 move.1 dt 2 ∷ [])

-- the checks of the fibre of link k in a Pass: each one-way delay moves by at most 2 * 10^-12 of the time that passes, which is
-- 2 ps in a second
abbrev pub fibre_rate : ℤ → List (ℤ × ℤ) → ℕ → List Check
fibre_rate dt moves k = rate_of_fibre dt (move_of moves k)

-- 5, Fibre: the delays of a joined link are at least 0, and at most the reach with the ports' own; and the way down has
-- its share of both to within e_asym

-- how far the way down is from its share, times 2^40
abbrev pub asymmetry : (kappa ms sm : ℤ) → ℤ
asymmetry kappa ms sm = (pos (2 ^ 40) *ℤ ms) -ℤ ((pos (2 ^ 39) +ℤ kappa) *ℤ (ms +ℤ sm))

-- of a fibre, the delays with both ports' own down and up, and the link
abbrev pub fibre_by : (most : ℤ) → FibreState → (down up : ℤ) → LinkCfg → List Check
fibre_by most fibre down up link =
    at_least 5 fibre.ms (pos 0) ∷ (at_least 5 fibre.sm (pos 0) ∷ (
    at_most 5 down most ∷ (at_most 5 up most ∷ (
    at_most 5 (size_of (asymmetry link.kappa fibre.ms fibre.sm)) (pos (2 ^ 40 * link.e_asym)) ∷ []))))

-- the checks of a link's fibre in world v: its own delays and the whole one-way delays, in tau, and the asymmetry, in tau times
-- 2^40
abbrev pub fibre_checks : Setting → WorldAt → ℕ → LinkCfg → List Check
fibre_checks s v k link = fibre_by (pos (reach s.cfg)) (v.fibre k) (delay_from v k Master) (delay_from v k Slave) link

-- of the world that the event would give
abbrev pub fibre_kept : Setting → WorldAt → ℕ → List Check
fibre_kept s v k = map (only_where (v.fibre k).joined) (option_map_or (fibre_checks s v k) (link_of s k) [])

-- 6, Module: the true delays of a listed module are within its error of its entry; the transmission delay comes first

-- the checks of a swap against the database entry of its module: both delays and the entry's error are in tau
abbrev pub listed_checks : Swap → Module → List Check
listed_checks swap entry =
    at_most 6 (size_of (pos swap.tx -ℤ pos entry.tx)) (pos entry.err)
    ∷ (at_most 6 (size_of (pos swap.rx -ℤ pos entry.rx)) (pos entry.err) ∷ [])

-- the checks of a swap against its module's entry, if it has one: a module that is not listed may have any delays
abbrev pub module_checks : Swap → Option Module → List Check
module_checks swap None = []
module_checks swap (Some entry) = listed_checks swap entry

-- the database entry of the module that a swap puts in place; None if the port is at no link, or the module is not listed
abbrev pub entry_for : Setting → Swap → Option Place → Option Module
entry_for s swap None = None
entry_for s swap (Some place) = entry_at s place.link place.role swap.name.bytes

-- the checks of one swap at node n, which comes up
abbrev pub module_kept : Setting → ℕ → Swap → List Check
module_kept s n swap = module_checks swap (entry_for s swap (place_of s n swap.port))

-- 10, TooOld: a frame is too old when more than its life has passed since it was put out
abbrev pub too_old : NetCfg → ℤ → Sending → Check
too_old cfg now sending = at_most 10 (now -ℤ sending.at) (pos (frame_life cfg))

-- 7, TxStamp; 10, TooOld; 11, NotSent; 13, NotUp: of a frame that departs

-- the checks of a Depart: a port at no link breaks 13, one where nothing waits breaks 11; else the stamp is within e_tx
-- of the node's reading, in tau (7), the frame is not too old (10), and the link has its carrier (13)
abbrev pub depart_checks : Setting → WorldAt → ℕ → ℤ → Option Place → List Sending → List Check
depart_checks s w n stamp None waiting = needs false ∷ []
depart_checks s w n stamp (Some place) [] = not_sent 0 w.departed ∷ []
depart_checks s w n stamp (Some place) (oldest ∷ rest) =
    at_most 7 (size_of (stamp -ℤ reading w n)) (pos (of_node (λ node. node.e_tx) s n))
    ∷ (too_old s.cfg w.time oldest ∷ (needs (has_carrier s w place.link) ∷ []))

-- 8, RxRaw: a frame arrives when it is due; its tag is within e_tag of the true place in the period, and each counter
-- is right if a merge may use it

-- whether a merge may use the rising counter, and the falling one
abbrev pub may_rise : Clock → (e_tag place : ℕ) → Bool
may_rise clock e_tag place =
    nat_le (quarter_of clock) (place + e_tag) && nat_lt place (3 * quarter_of clock + e_tag)

-- the falling counter: in the first and the last quarter of the period, and up to e_tag past their inner sides, in tau
abbrev pub may_fall : Clock → (e_tag place : ℕ) → Bool
may_fall clock e_tag place = nat_lt place (quarter_of clock + e_tag) || nat_le (3 * quarter_of clock) (place + e_tag)

-- a counter is off by this much from what it should be
abbrev pub counter_check : ℕ → ℤ → Check
counter_check counter due = at_most 8 (size_of (pos counter -ℤ due)) (pos 0)

-- the checks of a raw stamp if the node's true reading is `at`, in tau: of its tag, and of each counter if a merge may
-- use it: the rising one has the whole periods of the reading, the falling one the whole periods of half a period later
abbrev pub raw_checks : Clock → (e_tag transition : ℕ) → ℤ → Raw → List Check
raw_checks clock e_tag transition at raw =
    at_most 8
    (pos (distance_round clock (pos (place_in_period clock raw.tag transition)) (pos (true_place clock at)))) (pos e_tag)
    ∷ (only_where (may_rise clock e_tag (true_place clock at))
    (counter_check raw.rising (floor_quotient at (pos (period_of clock))))
    ∷ (only_where (may_fall clock e_tag (true_place clock at))
    (counter_check raw.falling (floor_quotient (at +ℤ pos (period_of clock / 2)) (pos (period_of clock)))) ∷ []))

-- at the node n that receives it, over this module
abbrev pub received_at : Setting → WorldAt → Option Module → Raw → ℕ → List Check
received_at s w entry raw n =
    raw_checks s.cfg.clock (of_node (λ node. node.e_tag) s n) (transition_of entry) (reading w n) raw

-- the checks of a frame's raw stamp, at the end that did not send it, over the module in place there
abbrev pub received : Setting → WorldAt → FrameAt → Raw → List Check
received s w f raw =
    option_map_or
    (λ end. received_at s w (entry_at s f.link (other_of f.by) (w.end_at f.link (other_of f.by)).name) raw end.node)
    (end_at s f.link (other_of f.by)) []

-- the checks of an Arrive: a frame that is not on a fibre breaks 11; else it arrives at the true time when it is due, its raw
-- stamp is right (both 8), and the link has its carrier (13)
abbrev pub arrive_checks : Setting → WorldAt → ℕ → Raw → Bool → Option FrameAt → List Check
arrive_checks s w i raw true (Some f) =
    at_most 8 (size_of (w.time -ℤ f.due)) (pos 0)
    ∷ (received s w f raw ++ (needs (has_carrier s w f.link) ∷ []))
arrive_checks s w i raw _ _ = not_sent i w.departed ∷ []

-- 9, Beat: no beat bit is wrong; shown is the first that is, and bound the true step's distance from the base

-- bit i is 1 though it is more than `beat` steps before the true step, or 0 though it is `beat` steps or more past it; between
-- these it may be either. All are in detector steps, counted from the sample's base
abbrev pub is_wrong : ℤ → (beat bits i : ℕ) → Bool
is_wrong steps beat bits i =
    (lt_z (pos i) (steps -ℤ pos beat) && not (beat_bit bits i == 0))
    || (le_z (steps +ℤ pos beat) (pos i) && not (beat_bit bits i == 1))

-- the check of bit i, the most significant first, if the true step is this many steps past the base
abbrev pub bit_check : ℤ → (beat bits i : ℕ) → Check
bit_check steps beat bits i =
    record { premise = 9; fails = is_wrong steps beat bits i; shown = pos i; bound = steps }

-- of a sample's base and bits, if the true phase is this
abbrev pub beat_by : Clock → (beat base bits : ℕ) → ℤ → List Check
beat_by clock beat base bits phase = map (bit_check (steps_past (true_step clock phase) base) beat bits) (from_on 64 0)

-- the checks of a sample of node n: the true phase is the node's against its parent, over link k
abbrev pub beat_checks : Setting → WorldAt → (n base bits k : ℕ) → LinkCfg → List Check
beat_checks s w n base bits k link =
    beat_by s.cfg.clock (of_node (λ node. node.beat) s n) base bits (phase_of w k link)

-- the checks of a Sample: a node without a link above, such as the grandmaster, breaks 13; else the link above has its
-- carrier (13), and if it has, no beat bit is wrong (9, tried first)
abbrev pub sample_checks : Setting → WorldAt → (n base bits : ℕ) → Option ℕ → List Check
sample_checks s w n base bits None = needs false ∷ []
sample_checks s w n base bits (Some k) =
    map (only_where (has_carrier s w k)) (option_map_or (beat_checks s w n base bits k) (link_of s k) [])
    ++ (needs (has_carrier s w k) ∷ [])

-- 10, TooOld; 11, NotSent; 13, NotUp: of a frame that is handed over

-- the checks of a frame that departed: it is not too old (10), it arrived (11), and its link has its
-- carrier (13)
abbrev pub deliver_by : Setting → WorldAt → ℕ → FrameAt → Option Arrival → List Check
deliver_by s w i f None = too_old s.cfg w.time f.sending ∷ (not_sent i w.departed ∷ [])
deliver_by s w i f (Some arrival) = too_old s.cfg w.time f.sending ∷ (needs (has_carrier s w f.link) ∷ [])

-- the checks of a Deliver: a number that no frame has breaks 11
abbrev pub deliver_checks : Setting → WorldAt → ℕ → Option FrameAt → List Check
deliver_checks s w i None = not_sent i w.departed ∷ []
deliver_checks s w i (Some f) = deliver_by s w i f f.arrival

-- 12, Forged: octets that the peer did not send do not say a message of the peer

-- the octets say a message whose sourcePortIdentity is the peer's; octets that say no message forge nothing
abbrev pub is_forged : Setting → (n p : ℕ) → Result PtpMsg FrameFault → Bool
is_forged s n p (Err fault) = false
is_forged s n p (Ok message) = is_port message.head.source (port_of (s.set n) p).peer

-- the checks of a Noise: a port at no link breaks 13; else the octets are not forged (12, shown as 1 against 0), and the link
-- has its carrier (13)
abbrev pub noise_checks : Setting → WorldAt → (n p : ℕ) → Result PtpMsg FrameFault → Option Place → List Check
noise_checks s w n p says None = needs false ∷ []
noise_checks s w n p says (Some place) =
    record { premise = 12; fails = is_forged s n p says; shown = pos 1; bound = pos 0 }
    ∷ (needs (has_carrier s w place.link) ∷ [])

-- All checks of an event, by premise and then in file order; v is the world that it would make by itself

-- the checks of a Pass: each node's last tick (2), each clock's drift (3), each fibre's move (4), and the fibres
-- as they are after it (5)
abbrev pub pass_checks : Setting → (w v : WorldAt) → ℤ → List ℤ → List (ℤ × ℤ) → List Check
pass_checks s w v dt drifts moves =
    map (tick_late s w dt) (nodes_of s)
    ++ (flat_map (rate_kept s w dt drifts) (nodes_of s)
    ++ (flat_map (fibre_rate dt moves) (links_of s)
    ++ flat_map (fibre_kept s v) (links_of s)))

-- a swap is at a port of a link
abbrev pub swap_is_placed : Setting → ℕ → Swap → Check
swap_is_placed s n swap = needs (is_some (place_of s n swap.port))

-- the checks of an Up: the grandmaster's offset (3), the fibres with the new modules (5), the modules (6), and that
-- each swap is at a port of a link and the node is down (13)
abbrev pub up_checks : Setting → (w v : WorldAt) → ℕ → ℤ → List Swap → List Check
up_checks s w v n off swaps =
    true_at_top s n off
    ∷ (flat_map (fibre_kept s v) (links_of s)
    ++ (flat_map (module_kept s n) swaps
    ++ (map (swap_is_placed s n) swaps ++ (needs (not (w.clock n).up) ∷ []))))

-- the checks of each kind of event, in order; says is what the octets of a Noise say
abbrev pub checks : Setting → (w v : WorldAt) → Result PtpMsg FrameFault → Event → List Check
checks s w v says (Pass dt drifts moves) = pass_checks s w v dt drifts.items moves.items
checks s w v says (Tick n) = tick_early s w n ∷ (needs (w.clock n).up ∷ [])
checks s w v says (Sample n base bits) = sample_checks s w n base bits (above s n)
checks s w v says (Depart n p stamp) = depart_checks s w n stamp (place_of s n p) (waiting_at w (place_of s n p))
checks s w v says (Arrive i raw) = arrive_checks s w i raw (is_on_fibre (w.frame i)) (w.frame i)
checks s w v says (Deliver i) = deliver_checks s w i (w.frame i)
checks s w v says (Noise n p octets raw) = noise_checks s w n p says (place_of s n p)
checks s w v says (Down n) = needs (w.clock n).up ∷ []
checks s w v says (Up n off swaps) = up_checks s w v n off swaps.items
checks s w v says (Cut k) = needs (w.fibre k).joined ∷ []
checks s w v says (Join k ms sm) = fibre_kept s v k ++ (needs (not (w.fibre k).joined) ∷ [])

-- all checks of an event in world w, with the world that it makes by itself
abbrev pub checks_of : Setting → WorldAt → Result PtpMsg FrameFault → Event → List Check
checks_of s w says e = checks s w (moved s w e) says e

-- the event keeps all premises
abbrev pub Accepts : Setting → WorldAt → Result PtpMsg FrameFault → Event → Type 0
Accepts s w says e = AllHold (checks_of s w says e)

-- the first check that fails: the least premise, and in it the first in file order
abbrev pub broken : Setting → WorldAt → Result PtpMsg FrameFault → Event → Option Check
broken s w says e = first_broken (checks_of s w says e)
