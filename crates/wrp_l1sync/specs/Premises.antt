-- Which events a pair of ends takes, without the order in which its premises are tried (this project's profile).
use Rattle.std.specs.Prelude.{◌≡◌, ◌↔◌, ℕ, ◌+◌, ◌≤◌, true, unsigned_abs, List, None, Some}
use Rattle.wrp_l1sync.specs.declared.event.L1Event.{L1Event}
use Rattle.wrp_l1sync.specs.declared.event.L1Event.TheVariants.{Pass, Deliver}
use Rattle.wrp_l1sync.specs.declared.event.Limits.{Limits}
use Rattle.wrp_l1sync.specs.declared.event.Sent.{Sent}
use Rattle.wrp_l1sync.specs.declared.event.Side.{Side}
use Rattle.wrp_l1sync.specs.Inputs.{is_enabled}
use Rattle.wrp_l1sync.specs.Pair.{Timed, History, breach_of, handed, inputs_of, last_of, other, sent_at, side_of}

-- at this time no tick of an end is late: if it is enabled, at most dmax passed since its last tick or enabling
abbrev pub IsInTime : Limits → ℕ → List Timed → Type 0
IsInTime limits time timed = is_enabled (inputs_of timed) ≡ true → time ≤ last_of timed + limits.dmax

-- the other end sent a message with this number, at most life ago
pub record WasSent (limits : Limits) (h : History) (to : Side) (k : ℕ) : Type 0 where
  pub message : Sent
  pub numbered : sent_at h.sent k ≡ Some message
  pub by_other : message.by ≡ other to
  pub young : h.time ≤ message.at + limits.life

-- an event keeps the three premises
abbrev pub Keeps : Limits → History → L1Event → Type 0
Keeps limits h (Pass dt) = (side : Side) → IsInTime limits (h.time + unsigned_abs dt) (handed side h)
Keeps limits h (Deliver number k) = WasSent limits h (side_of number) k
Keeps limits h _ = Unit {0}

-- it breaks none if and only if it keeps them
abbrev pub EventsAreTakenExactly : Type 0
EventsAreTakenExactly =
    (limits : Limits) (h : History) (event : L1Event) → (breach_of limits h event ≡ None) ↔ Keeps limits h event
