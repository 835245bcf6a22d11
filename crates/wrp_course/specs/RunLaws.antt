-- What holds after every event of every run of an accepted network (this project's profile).
use Rattle.std.specs.Prelude.{◌≡◌, ◌⊎◌, ℕ, ℤ, pos, ◌+ℤ◌, ◌≤ℤ◌, ◌≤◌, true, List, ◌∷◌, ◌++◌, Some, IfSome}
use Rattle.wrp_base.specs.declared.link.Role.{Role}
use Rattle.wrp_bounds.specs.Times.{shortest_tick}
use Rattle.wrp_course.specs.declared.event.Event.{Event}
use Rattle.wrp_course.specs.declared.event.Event.TheVariants.{Tick, Up}
use Rattle.wrp_course.specs.Run.{Happened, world_after}
use Rattle.wrp_course.specs.Runs.{IsRun, WasPutOut}
use Rattle.wrp_course.specs.Setting.{Setting}
use Rattle.wrp_course.specs.WorldAt.{EndAt, FrameAt, WorldAt, has_carrier}

-- true time never falls
abbrev pub TimeNeverFalls : Type 0
TimeNeverFalls =
    (s : Setting) (newer older : List Happened) → IsRun s (newer ++ older) →
    (world_after s older).time ≤ℤ (world_after s (newer ++ older)).time

-- each frame that departed is among those that its port ever put out
abbrev pub FramesWerePutOut : Type 0
FramesWerePutOut =
    (s : Setting) (events : List Happened) (i : ℕ) (f : FrameAt) → IsRun s events → (world_after s events).frame i ≡ Some f →
    WasPutOut f.sending ((world_after s events).end_at f.link f.by).sent

-- a frame is put out, departs and arrives in this order, by true time and by events, and arrives when it is due
pub record HasTimes (w : WorldAt) (f : FrameAt) : Type 0 where
  pub sent : f.sending.at ≤ℤ f.at
  pub sent_before : f.sending.moment ≤ f.moment
  pub departed : f.at ≤ℤ w.time
  pub departed_before : f.moment ≤ w.count
  pub arrived : IfSome f.arrival (λ a. (f.at ≤ℤ a.at) × (a.at ≤ℤ w.time) × (f.moment ≤ a.moment) × (a.moment ≤ w.count) × (a.at ≡ f.due))

-- this holds of each frame that departed, after every event of every run
abbrev pub FramesHaveTimes : Type 0
FramesHaveTimes =
    (s : Setting) (events : List Happened) (i : ℕ) (f : FrameAt) → IsRun s events → (world_after s events).frame i ≡ Some f →
    HasTimes (world_after s events) f

-- what an event does to the time of a node's last tick, or of its start: it stays, or the node ticks, no sooner than
-- dmin after that time, or it starts
abbrev pub TickOrStart : (least : ℕ) → (n : ℕ) → (old now : ℤ) → Event → Type 0
TickOrStart least n old now (Tick m) = (m ≡ n) × ((old +ℤ pos least) ≤ℤ now)
TickOrStart least n old now (Up m off swaps) = m ≡ n
TickOrStart least n old now _ = ⊥

-- in every event of every run, the time of a node's last tick or start stays as it was, or becomes the present time
-- because the node ticks, no sooner than dmin after its last tick or start, or starts
abbrev pub TicksAreApart : Type 0
TicksAreApart =
    (s : Setting) (h : Happened) (before : List Happened) (n : ℕ) → IsRun s (h ∷ before) →
    (((world_after s (h ∷ before)).clock n).ticked ≡ ((world_after s before).clock n).ticked)
    ⊎ ((((world_after s (h ∷ before)).clock n).ticked ≡ (world_after s (h ∷ before)).time)
    × TickOrStart (shortest_tick s.cfg) n ((world_after s before).clock n).ticked (world_after s (h ∷ before)).time h.event)

-- the same module is in place, with the same true delays
pub record SameModule (old new : EndAt) : Type 0 where
  pub name : new.name ≡ old.name
  pub tx : new.tx ≡ old.tx
  pub rx : new.rx ≡ old.rx

-- while a link has its carrier, the modules at its ends stay
abbrev pub ModulesStay : Type 0
ModulesStay =
    (s : Setting) (h : Happened) (before : List Happened) (k : ℕ) (r : Role) → IsRun s (h ∷ before) →
    has_carrier s (world_after s before) k ≡ true →
    SameModule ((world_after s before).end_at k r) ((world_after s (h ∷ before)).end_at k r)
