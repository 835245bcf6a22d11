-- What waits at the ends of a link in memory, looking back over the calls that answered Ok
-- (this project's profile).
use Rattle.std.specs.Prelude.{◌≡◌, ℕ, ⊤, ◌==◌, if◌then◌else◌, List, filter_map, length, drop, slice_get, Option, Some, None}
use Rattle.wrp_io.specs.declared.link.LinkCall.{LinkCall}
use Rattle.wrp_io.specs.declared.link.LinkCall.TheVariants.{Start, Send, Receive}
use Rattle.wrp_io.specs.Link.{other_end, octets_of, FramesWaiting, SameWaits, PutsAt, TakesFrom, FindsNone}

-- the octets that a call sent to this end
abbrev pub octets_sent_to : ℕ → LinkCall → Option (List ℕ)
octets_sent_to end (Send from frame) = if other_end from == end then Some frame.items else None
octets_sent_to end _ = None

-- the octets that a call received at this end
abbrev pub octets_received_at : ℕ → LinkCall → Option (List ℕ)
octets_received_at end (Receive at found) = if at == end then octets_of found else None
octets_received_at end _ = None

-- all that was sent to this end, in order
abbrev pub all_sent_to : ℕ → List LinkCall → List (List ℕ)
all_sent_to end calls = filter_map (octets_sent_to end) calls

-- all that was received at this end, in order
abbrev pub all_received_at : ℕ → List LinkCall → List (List ℕ)
all_received_at end calls = filter_map (octets_received_at end) calls

-- what waits at this end: what was sent to it, except as many of the first frames as were received there
abbrev pub waiting_at : ℕ → List LinkCall → List (List ℕ)
waiting_at end calls = drop (length (all_received_at end calls)) (all_sent_to end calls)

-- what waits at each end, as a link that reports these calls reports it
abbrev pub frames_waiting : List LinkCall → FramesWaiting
frames_waiting calls end = Some (waiting_at end calls)

-- after these calls, a call that receives does so with the frame that waits longest, if one waits
abbrev pub IsNext : List LinkCall → LinkCall → Type 0
IsNext calls (Receive end found) = octets_of found ≡ slice_get (waiting_at end calls) 0
IsNext calls _ = ⊤

-- what a call that answered Ok does to what waits
abbrev pub Moves : FramesWaiting → FramesWaiting → LinkCall → Type 0
Moves before now (Start ends) = SameWaits before now
Moves before now (Send end frame) = PutsAt before now (other_end end) frame.items
Moves before now (Receive end (Some frame)) = TakesFrom before now end frame.items
Moves before now (Receive end None) = FindsNone before now end
