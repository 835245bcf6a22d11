-- What each event changes by itself, before any node is given an input (this project's profile).
use Rattle.std.specs.Prelude.{ℕ, ℤ, pos, ◌+◌, ◌==◌, ◌&&◌, ◌||◌, ◌+ℤ◌, nat_lt, Bool, true, false, if◌then◌else◌, List, [], ◌∷◌, Option, None, Some, option_map, slice_get}
use Rattle.std.specs.List.{find}
use Rattle.std.specs.Option.{option_map_or}
use Rattle.wrp_base.specs.declared.link.Role.{Role}
use Rattle.wrp_base.specs.declared.link.Role.TheVariants.{Master, Slave}
use Rattle.wrp_base.specs.declared.time.Raw.{Raw}
use Rattle.wrp_base.specs.Link.{other_of}
use Rattle.wrp_course.specs.declared.clocks.ClockState.{ClockState}
use Rattle.wrp_course.specs.declared.fibres.FibreState.{FibreState}
use Rattle.wrp_course.specs.declared.event.Event.{Event}
use Rattle.wrp_course.specs.declared.event.Event.TheVariants.{Pass, Sample, Depart, Arrive, Down, Up, Cut, Join}
use Rattle.wrp_course.specs.declared.event.Swap.{Swap}
use Rattle.wrp_course.specs.declared.place.Place.{Place}
use Rattle.wrp_course.specs.Setting.{Setting, end_at, is_of, is_role, place_of}
use Rattle.wrp_course.specs.WorldAt.{WorldAt, EndAt, Sending, FrameAt, delay_from, is_on_fibre}

-- Time and clocks

-- true time after an event, in tau: only a Pass moves it, by its dt
abbrev pub time_after : WorldAt → Event → ℤ
time_after w (Pass dt drifts fibres) = w.time +ℤ dt
time_after w _ = w.time

-- how far a clock moves
abbrev pub drift_of : List ℤ → ℕ → ℤ
drift_of drifts n = option_map_or (λ drift. drift) (slice_get drifts n) (pos 0)

-- the clock of node m after an event: a Pass moves its offset by the drift, in tau; a Sample counts one more sample; Down takes
-- the node down; Up starts it with a new offset, no sample, and the present time as its last tick's
abbrev pub clock_after : WorldAt → Event → ℕ → ClockState
clock_after w (Pass dt drifts fibres) m =
    record (w.clock m) { off = (w.clock m).off +ℤ drift_of drifts.items m }
clock_after w (Sample n base bits) m =
    if m == n then record (w.clock m) { samples = (w.clock m).samples + 1 } else w.clock m
clock_after w (Down n) m = if m == n then record (w.clock m) { up = false } else w.clock m
clock_after w (Up n off swaps) m =
    if m == n then record { up = true; off = off; ticked = w.time; samples = 0 } else w.clock m
clock_after w _ m = w.clock m

-- Fibres

-- how far the delays of a fibre move, down and up
abbrev pub move_of : List (ℤ × ℤ) → ℕ → ℤ × ℤ
move_of moves k = option_map_or (λ move. move) (slice_get moves k) (pos 0, pos 0)

-- the fibre of link l after an event: a Pass moves its two one-way delays, in tau; a Cut takes it apart and leaves the delays
-- as they are; a Join joins it with new ones
abbrev pub fibre_after : WorldAt → Event → ℕ → FibreState
fibre_after w (Pass dt drifts fibres) l =
    record (w.fibre l) {
      ms = (w.fibre l).ms +ℤ (move_of fibres.items l).0;
      sm = (w.fibre l).sm +ℤ (move_of fibres.items l).1;
    }
fibre_after w (Cut k) l = if l == k then record (w.fibre l) { joined = false } else w.fibre l
fibre_after w (Join k ms sm) l = if l == k then record { joined = true; ms = ms; sm = sm } else w.fibre l
fibre_after w _ l = w.fibre l

-- Ends

-- one of the two ends of a link is this node's
abbrev pub touches : Setting → ℕ → ℕ → Bool
touches s n k = is_of n (end_at s k Master) || is_of n (end_at s k Slave)

-- a link whose waiting frames, and those on its fibre, are lost
abbrev pub loses : Setting → Event → ℕ → Bool
loses s (Down n) k = touches s n k
loses s (Cut l) k = k == l
loses s _ k = false

-- the module that was put in place at a port
abbrev pub swap_at : ℕ → List Swap → Option Swap
swap_at p swaps = find (λ swap. swap.port == p) swaps

-- an end after a swap at its port: with the new module's name and true delays, in tau; as it was if there is no swap
abbrev pub with_swap : Option Swap → EndAt → EndAt
with_swap None e = e
with_swap (Some swap) e = record e { name = swap.name.bytes; tx = swap.tx; rx = swap.rx }

-- the number of the port at an end of a link; 0 if there is no such link
abbrev pub port_number : Setting → ℕ → Role → ℕ
port_number s k r = option_map_or (λ end. end.port) (end_at s k r) 0

-- the port is this end of this link
abbrev pub is_place : Option Place → ℕ → Role → Bool
is_place None k r = false
is_place (Some place) k r = (place.link == k) && is_role place.role r

-- the frames that still wait after the oldest departed
abbrev pub behind_first : List Sending → List Sending
behind_first [] = []
behind_first (first ∷ rest) = rest

-- an end of a link after an event: a Depart at its port takes the oldest waiting frame from it; an Up of its node swaps
-- the module if a swap names its port; if the link loses its frames (Down of a node at it, Cut), none waits any more
abbrev pub end_after : Setting → WorldAt → Event → ℕ → Role → EndAt
end_after s w (Depart n p stamp) k r =
    if is_place (place_of s n p) k r
    then record (w.end_at k r) { waiting = behind_first (w.end_at k r).waiting } else w.end_at k r
end_after s w (Up n off swaps) k r =
    if is_of n (end_at s k r) then with_swap (swap_at (port_number s k r) swaps.items) (w.end_at k r) else w.end_at k r
end_after s w e k r = if loses s e k then record (w.end_at k r) { waiting = [] } else w.end_at k r

-- Frames

-- what waits at a port, the oldest first
abbrev pub waiting_at : WorldAt → Option Place → List Sending
waiting_at w None = []
waiting_at w (Some place) = (w.end_at place.link place.role).waiting

-- the oldest that waits gets the next number, and is due after the delay of its way
abbrev pub departing : WorldAt → Option Place → ℤ → List Sending → ℕ → Option FrameAt
departing w (Some place) stamp (oldest ∷ rest) i =
    if i == (w.departed + 1) then Some (record {
      link = place.link;
      by = place.role;
      sending = oldest;
      stamp = stamp;
      at = w.time;
      moment = w.count;
      due = w.time +ℤ delay_from w place.link place.role;
      arrival = None;
      gone = false;
    }) else w.frame i
departing w _ stamp _ i = w.frame i

-- the samples so far at the node that receives a frame
abbrev pub samples_at : Setting → WorldAt → FrameAt → ℕ
samples_at s w f = option_map_or (λ end. (w.clock end.node).samples) (end_at s f.link (other_of f.by)) 0

-- frame j, which is g, arrives: the older ones of its direction that are on the fibre never do
abbrev pub arriving : Setting → WorldAt → ℕ → Raw → FrameAt → ℕ → FrameAt → FrameAt
arriving s w j raw g i f =
    if i == j
    then record f { arrival = Some (record { raw = raw; sample = samples_at s w g; at = w.time; moment = w.count }) }
    else record f {
      gone = f.gone || (is_on_fibre (Some f) && (nat_lt i j && ((f.link == g.link) && is_role f.by g.by)));
    }

-- the frame of number i after the arrival of frame j; nothing changes if there is no frame j, or none of number i
abbrev pub arrived : Setting → WorldAt → ℕ → Raw → Option FrameAt → ℕ → Option FrameAt → Option FrameAt
arrived s w j raw (Some g) i (Some f) = Some (arriving s w j raw g i f)
arrived s w j raw _ i f = f

-- a frame on the fibre of a link that loses it never arrives
abbrev pub removed : Setting → Event → FrameAt → FrameAt
removed s e f = record f { gone = f.gone || (loses s e f.link && is_on_fibre (Some f)) }

-- the frame of number i after an event: a Depart gives the oldest that waits the next number; an Arrive notes the
-- arrival and removes the older frames of its direction from the fibre; if the link loses its frames (Down, Cut), they
-- never arrive
abbrev pub frame_after : Setting → WorldAt → Event → ℕ → Option FrameAt
frame_after s w (Depart n p stamp) i = departing w (place_of s n p) stamp (waiting_at w (place_of s n p)) i
frame_after s w (Arrive j raw) i = arrived s w j raw (w.frame j) i (w.frame i)
frame_after s w e i = option_map (removed s e) (w.frame i)

-- a count after the first of these frames departed: one more, or as it was if none waits
abbrev pub one_more : List Sending → ℕ → ℕ
one_more [] count = count
one_more (first ∷ rest) count = count + 1

-- how many frames departed in all after an event: one more after a Depart at a port where a frame waits
abbrev pub departed_after : Setting → WorldAt → Event → ℕ
departed_after s w (Depart n p stamp) = one_more (waiting_at w (place_of s n p)) w.departed
departed_after s w _ = w.departed

-- The world that an event makes by itself

-- time, clocks, fibres, ends and frames as the event leaves them, and one more event; the nodes have not taken their inputs yet,
-- so they are as they were
abbrev pub moved : Setting → WorldAt → Event → WorldAt
moved s w e = record {
  time = time_after w e;
  count = w.count + 1;
  clock = clock_after w e;
  node = w.node;
  inputs = w.inputs;
  fibre = fibre_after w e;
  end_at = end_after s w e;
  departed = departed_after s w e;
  frame = frame_after s w e;
}
