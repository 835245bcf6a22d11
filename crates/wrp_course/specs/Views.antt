-- What can be asked of a world (this project's profile).
use Rattle.std.specs.Prelude.{◌≡◌, ◌⊎◌, ◌||◌, ℕ, ℤ, pos, ◌+ℤ◌, ◌-ℤ◌, ◌<ℤ◌, ◌≤◌, Bool, true, false, if◌then◌else◌, List, [], ◌∷◌, count_by, reverse, Option, None, Some, option_map, option_and_then}
use Rattle.std.specs.Int.Signed.{le_z}
use Rattle.wrp_base.specs.declared.link.Mark.{Mark}
use Rattle.wrp_network.specs.Network.{End}
use Rattle.wrp_bounds.specs.Times.{shortest_tick, longest_tick, frame_life}
use Rattle.wrp_frame.specs.SentOctets.{octets_of}
use Rattle.wrp_course.specs.declared.place.Place.{Place}
use Rattle.wrp_course.specs.Setting.{Setting, end_at, from_on, place_of}
use Rattle.wrp_course.specs.WorldAt.{WorldAt, FrameAt, Sending, is_on_fibre}
use Rattle.wrp_course.specs.Moved.{waiting_at}

-- the history of a port's link, the oldest mark first
abbrev pub history_of : WorldAt → Option Place → List Mark
history_of w None = []
history_of w (Some place) = reverse (w.end_at place.link place.role).marks

-- when the oldest was put out
abbrev pub oldest_of : List Sending → Option ℤ
oldest_of [] = None
oldest_of (oldest ∷ rest) = Some oldest.at

-- the true time at which the oldest frame that waits at a port was put out
abbrev pub waiting_of : Setting → WorldAt → ℕ → ℕ → Option ℤ
waiting_of s w n p = oldest_of (waiting_at w (place_of s n p))

-- the first and the last true time at which a node may tick next
abbrev pub tick_due : Setting → WorldAt → ℕ → Option (ℤ × ℤ)
tick_due s w n =
    if (w.clock n).up
    then Some ((w.clock n).ticked +ℤ pos (shortest_tick s.cfg), (w.clock n).ticked +ℤ pos (longest_tick s.cfg))
    else None

-- a frame is due no sooner than frame i: later, or at the same time with no lesser number
abbrev pub IsNoSooner : (i : ℕ) (due : ℤ) → ℕ → FrameAt → Type 0
IsNoSooner i due j f = (due <ℤ f.due) ⊎ ((due ≡ f.due) × (i ≤ j))

-- the frame on a fibre that is due first, the least number among equals
abbrev pub IsNextArrival : WorldAt → Option (ℕ × ℤ) → Type 0
IsNextArrival w None = (i : ℕ) → is_on_fibre (w.frame i) ≡ false
IsNextArrival w (Some next) =
    (f : FrameAt) × (w.frame next.0 ≡ Some f) × (is_on_fibre (w.frame next.0) ≡ true) × (f.due ≡ next.1)
    × ((j : ℕ) (g : FrameAt) → w.frame j ≡ Some g → is_on_fibre (w.frame j) ≡ true → IsNoSooner next.0 next.1 j g)

-- Which frames a world still shows: those that are kept

-- a frame is kept while it is on a fibre, and for as long as it was put out at most a frame's life ago
abbrev pub is_kept : Setting → WorldAt → Option FrameAt → Bool
is_kept s w None = false
is_kept s w (Some f) = is_on_fibre (Some f) || le_z (w.time -ℤ f.sending.at) (pos (frame_life s.cfg))

-- the frame of a number, if it is kept
abbrev pub kept_frame : Setting → WorldAt → ℕ → Option FrameAt
kept_frame s w i = if is_kept s w (w.frame i) then w.frame i else None

-- how many of the numbers that were given, from 1 on, are numbers of frames that are kept
abbrev pub kept_count : Setting → WorldAt → ℕ
kept_count s w = count_by (λ i. is_kept s w (w.frame i)) (from_on w.departed 1)

-- the octets of a frame that is kept, and the port that sent it
abbrev pub octets_at : Setting → WorldAt → ℕ → Option (List ℕ)
octets_at s w i = option_map (λ f. octets_of f.sending.message) (kept_frame s w i)

-- the port that sent a frame, as its node and number; None if the frame is not kept
abbrev pub sender_of : Setting → WorldAt → ℕ → Option End
sender_of s w i = option_and_then (λ f. end_at s f.link f.by) (kept_frame s w i)
