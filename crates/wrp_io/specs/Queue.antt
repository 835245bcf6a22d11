-- The frames that a link in memory keeps, in the order of their sending, as what waits at each end
-- (this project's profile).
use Rattle.std.specs.Prelude.{◌≡◌, ◌≢◌, ℕ, ◌≤◌, ◌==◌, if◌then◌else◌, List, [], ◌∷◌, ◌++◌, filter_map, length, Option, Some, None, MatchOption}
use Rattle.arrayvec.specs.ArrayVec.{ArrayVec}
use Rattle.wrp_io.specs.declared.link.LinkCall.{LinkCall}
use Rattle.wrp_io.specs.declared.queue.Held.{Held}
use Rattle.wrp_io.specs.FramesWaiting.{all_sent_to, all_received_at, frames_waiting, IsNext, Moves}

-- the octets of a frame that is held for this end
abbrev pub held_for : ℕ → Held → Option (List ℕ)
held_for end held = if held.end == end then Some held.frame.items else None

-- the octets of all the frames that are held for this end
abbrev pub held_at : ℕ → List Held → List (List ℕ)
held_at end queue = filter_map (held_for end) queue

-- the queue holds what was sent and not yet received: at each end what was sent is what was
-- received, and then what is held
abbrev pub Carries : List LinkCall → List Held → Type 0
Carries calls queue =
    (end : ℕ) → all_sent_to end calls ≡ all_received_at end calls ++ held_at end queue

-- nothing was held for this end, and the same frames are held
abbrev pub HeldNone : List Held → List Held → ℕ → Type 0
HeldNone before now end = (held_at end before ≡ []) × (now ≡ before)

-- the frame was the first that was held for this end, and the others are held as before
abbrev pub HeldFirst : List Held → List Held → ℕ → ArrayVec ℕ → Type 0
HeldFirst before now end frame =
    (held_at end before ≡ frame.items ∷ held_at end now)
    × ((other : ℕ) → other ≢ end → held_at other now ≡ held_at other before)

-- the first frame that was held for this end is taken out, if there was one
abbrev pub TakesFirst : List Held → List Held → ℕ → Option (ArrayVec ℕ) → Type 0
TakesFirst before now end found =
    MatchOption found (HeldNone before now end) (HeldFirst before now end)

-- after calls whose frames the queue carried, the call may come next: its frames are carried too
abbrev pub MovesFrame : List Held → List Held → LinkCall → Type 0
MovesFrame before now call =
    (calls : List LinkCall) → Carries calls before → IsNext calls call
    → Carries (calls ++ call ∷ []) now
    × Moves (frames_waiting calls) (frames_waiting (calls ++ call ∷ [])) call

-- what a link in memory keeps: the queue carries what was sent, no more is held than was reported and no more was
-- reported than was called, and there is room for as many calls as it takes
pub record Keeps (told : List LinkCall) (queue : List Held)
    (made room told_capacity queue_capacity : ℕ) : Type 0 where
  pub carries : Carries told queue
  pub called : length told ≤ made
  pub held : length queue ≤ length told
  pub told_room : room ≤ told_capacity
  pub queue_room : room ≤ queue_capacity
