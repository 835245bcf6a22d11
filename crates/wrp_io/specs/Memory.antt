-- What the objects in memory hold (this project's profile).
use Rattle.std.specs.Prelude.{ℕ, ◌-◌, ◌<◌, ◌≤◌, ◌⊎◌, List, [], ◌∷◌, ◌++◌, length}
use Rattle.wrp_io.specs.declared.link.LinkCall.{LinkCall}
use Rattle.wrp_io.specs.Calls.{CallsAt, no_calls, IsListed, after_good, after_fault}

-- a source: the octets that are left, and its calls
pub record MemSourceAt : Type 0 where
  pub left : List ℕ
  pub calls : CallsAt

-- a sink: the octets that it holds, how many it has room for, and its calls
pub record MemSinkAt : Type 0 where
  pub held : List ℕ
  pub room : ℕ
  pub calls : CallsAt

-- how many octets a sink has room for still
abbrev pub room_left : MemSinkAt → ℕ
room_left sink = sink.room - length sink.held

-- the next call of a sink, with this piece, fails: it is listed, or the room is used up
abbrev pub SinkFails : MemSinkAt → List ℕ → Type 0
SinkFails sink piece = IsListed sink.calls ⊎ ((0 < length piece) × (sink.room ≤ length sink.held))

-- a link: the calls that answered Ok, how many calls it takes, and its calls
pub record MemLinkAt : Type 0 where
  pub told : List LinkCall
  pub room : ℕ
  pub calls : CallsAt

-- a link that was not called yet
abbrev pub new_link : ℕ → List ℕ → MemLinkAt
new_link room fails = record { told = []; room = room; calls = no_calls fails }

-- the next call of a link fails: it is listed, or the link was called as often as it takes
abbrev pub LinkFails : MemLinkAt → Type 0
LinkFails link = IsListed link.calls ⊎ (link.room ≤ link.calls.made)

-- the link after a call that answered Ok
abbrev pub with_call : MemLinkAt → LinkCall → MemLinkAt
with_call link call = record link { told = link.told ++ call ∷ []; calls = after_good link.calls }

-- the link after a call that failed
abbrev pub with_fault : MemLinkAt → MemLinkAt
with_fault link = record link { calls = after_fault link.calls }
