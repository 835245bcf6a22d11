-- The message that carries the `up` of an end: how it was handed to this end, when the peer sent it, and what both ends require
-- as long as the peer's own message is still the one that was sent (this project's profile).
use Rattle.std.specs.Prelude.{◌≡◌, ◌⊎◌, ℕ, ◌+◌, ◌<◌, Bool, true, false, if◌then◌else◌, IsTrue, List, [], ◌∷◌, ◌++◌, length, Some}
use Rattle.std.specs.List.{AllByRecursion}
use Rattle.wrp_l1sync.specs.declared.event.L1Event.{L1Event}
use Rattle.wrp_l1sync.specs.declared.event.L1Event.TheVariants.{Tick, Enable, Disable, Own, Deliver}
use Rattle.wrp_l1sync.specs.declared.event.Limits.{Limits}
use Rattle.wrp_l1sync.specs.declared.event.Sent.{Sent}
use Rattle.wrp_l1sync.specs.declared.event.Side.{Side}
use Rattle.wrp_l1sync.specs.declared.event.Side.TheVariants.{A, B}
use Rattle.wrp_l1sync.specs.declared.interface.L1In.{L1In}
use Rattle.wrp_l1sync.specs.declared.interface.L1State.TheVariants.{Up}
use Rattle.wrp_l1sync.specs.declared.message.L1Msg.{L1Msg}
use Rattle.wrp_l1sync.specs.Inputs.{is_enabled, own_of, state_of}
use Rattle.wrp_l1sync.specs.Message.{meets}
use Rattle.wrp_l1sync.specs.Pair.{AreAccepted, handed, history, inputs_of, is_side, new_sent, other, sent_at, side_of}
use Rattle.wrp_l1sync.specs.Theorem.{Carries}

-- ---- events of one end

-- the event disables this end, or hands it a message
abbrev pub replaces : Side → L1Event → Bool
replaces side (Disable number) = is_side (side_of number) side
replaces side (Deliver number k) = is_side (side_of number) side
replaces side _ = false

-- the event sets this end's own message
abbrev pub sets_own : Side → L1Event → Bool
sets_own side (Own number message) = is_side (side_of number) side
sets_own side _ = false

-- no event of the list does
abbrev pub HasNoOwn : Side → List L1Event → Type 0
HasNoOwn side events = AllByRecursion (λ event. sets_own side event ≡ false) events

-- how many of these events are ticks of this end
abbrev pub ticks_to : Side → List L1Event → ℕ
ticks_to side [] = 0
ticks_to side (Tick number ∷ before) = if is_side (side_of number) side then ticks_to side before + 1 else ticks_to side before
ticks_to side (_ ∷ before) = ticks_to side before

-- what an end was handed in these events, newest first; and its own message after them
abbrev pub inputs_to : ℕ → List L1Event → Side → List L1In
inputs_to interval events side = inputs_of (handed side (history interval events))

abbrev pub own_at : ℕ → List L1Event → Side → L1Msg
own_at interval events side = own_of (inputs_to interval events side)

abbrev pub IsUp : Limits → List L1Event → Side → Type 0
IsUp limits events side = state_of limits.timeout (inputs_to limits.interval events side) ≡ Up

-- ---- the message

-- a delivery in these events handed the message of this number to this end while the end was enabled; since then the end was
-- not disabled and was handed no other message, and fewer than timeout of its ticks came
pub record WasHanded (limits : Limits) (events : List L1Event) (side : Side) (k : ℕ) (message : Sent) : Type 0 where
  pub newer : List L1Event
  pub older : List L1Event
  pub number : ℕ
  pub all : events ≡ newer ++ Deliver number k ∷ older
  pub to : side_of number ≡ side
  pub is : sent_at (history limits.interval older).sent k ≡ Some message
  pub enabled : is_enabled (inputs_to limits.interval older side) ≡ true
  pub since : AllByRecursion (λ event. replaces side event ≡ false) newer
  pub ticks : ticks_to side newer < limits.timeout

-- a tick of this end sent the message of this number, and these are the events since
pub record SentBefore (interval : ℕ) (events since : List L1Event) (side : Side) (k : ℕ) (message : Sent) : Type 0 where
  pub older : List L1Event
  pub number : ℕ
  pub all : events ≡ since ++ Tick number ∷ older
  pub by : side_of number ≡ side
  pub is : new_sent interval (history interval older) (Tick number) ≡ Some message
  pub numbered : k ≡ length (history interval older).sent + 1

-- both own messages require the same, and each required bit holds at both ends
pub record Agree (own peer : L1Msg) : Type 0 where
  pub same : own.req ≡ peer.req
  pub own_holds : IsTrue (meets own.req own.is)
  pub peer_holds : IsTrue (meets own.req peer.is)

-- an end is up by a message that its peer sent and that it was handed; if the peer's own message was not set since it
-- was sent, both ends agree
pub record IsUpBy (limits : Limits) (events : List L1Event) (side : Side) : Type 0 where
  pub message : Sent
  pub k : ℕ
  pub since : List L1Event
  pub carries : Carries limits (history limits.interval events) side (inputs_to limits.interval events side) message
  pub came : WasHanded limits events side k message
  pub sent : SentBefore limits.interval events since (other side) k message
  pub agree : HasNoOwn (other side) since →
      Agree (own_at limits.interval events side) (own_at limits.interval events (other side))

-- ---- both ends

-- both ends are up, each by a message; if one of the two own messages was not set since it was sent, both ends agree
pub record AreUpBy (limits : Limits) (events : List L1Event) : Type 0 where
  pub a : IsUpBy limits events A
  pub b : IsUpBy limits events B
  pub agree : HasNoOwn B a.since ⊎ HasNoOwn A b.since → Agree (own_at limits.interval events A) (own_at limits.interval events B)

-- two ends, newest event first: each sends a message, and both then require something else
abbrev pub worked_limits : Limits
worked_limits = record { timeout = 100; interval = 1; dmax = 1000; life = 1000 }

abbrev pub worked_events : List L1Event
worked_events =
    Deliver 0 2 ∷ Deliver 1 1 ∷ Own 1 (record { req = 3; is = 3 }) ∷ Tick 1 ∷ Own 1 (record { req = 1; is = 3 }) ∷
    Own 0 (record { req = 1; is = 3 }) ∷ Tick 0 ∷ Own 0 (record { req = 3; is = 3 }) ∷ Enable 1 ∷ Enable 0 ∷ []

-- both are up, and require 1 and 3
pub record WorkedDiffers : Type 0 where
  pub accepted : AreAccepted worked_limits worked_events
  pub a : IsUp worked_limits worked_events A
  pub b : IsUp worked_limits worked_events B
  pub a_requires : (own_at 1 worked_events A).req ≡ 1
  pub b_requires : (own_at 1 worked_events B).req ≡ 3

-- after every list of accepted events an end that is up is so by a message, and so are two that are; without a word on the own
-- messages two ends that are up need not agree
pub record UpEndsAgree : Type 0 where
  pub one : (limits : Limits) (events : List L1Event) (side : Side) → AreAccepted limits events → IsUp limits events side →
      IsUpBy limits events side
  pub two : (limits : Limits) (events : List L1Event) → AreAccepted limits events → IsUp limits events A → IsUp limits events B →
      AreUpBy limits events
  pub worked : WorkedDiffers
