-- A world without its nodes, as the code keeps it, and the state that it stands for (this project's profile).
use Rattle.std.specs.Prelude.{◌≡◌, ◌<◌, ◌≤◌, ◌≤ℤ◌, ◌^◌, ◌||◌, ◌+ℤ◌, ◌-ℤ◌, ℕ, ℤ, pos, Bool, false, if◌then◌else◌, List, length, reverse, Option, None, Some, IfSome, option_map, slice_get}
use Rattle.std.specs.Int.Signed.{le_z}
use Rattle.std.specs.List.{AllZip}
use Rattle.wrp_base.specs.declared.link.Role.{Role}
use Rattle.wrp_base.specs.declared.link.Role.TheVariants.{Master, Slave}
use Rattle.wrp_bounds.specs.Times.{frame_life}
use Rattle.wrp_config.specs.Accepted.{IsAccepted}
use Rattle.wrp_network.specs.Network.{IsGrandmaster}
use Rattle.wrp_flights.specs.declared.departed.Departed.{Departed}
use Rattle.wrp_flights.specs.declared.departed.Reception.{Reception}
use Rattle.wrp_flights.specs.Frames.{FramesAt, at, sent_at}
use Rattle.wrp_frame.specs.Grammar.{Spells}
use Rattle.wrp_frame.specs.SentOctets.{octets_of}
use Rattle.wrp_course.specs.declared.clocks.ClockState.{ClockState}
use Rattle.wrp_plant.specs.declared.ends.EndState.{EndState}
use Rattle.wrp_plant.specs.declared.ends.PutOut.{PutOut}
use Rattle.wrp_plant.specs.declared.ends.Span.{Span}
use Rattle.wrp_plant.specs.declared.plant.Plant.{Plant}
use Rattle.wrp_course.specs.EventAt.{IsRaw}
use Rattle.wrp_plant.specs.EndRoom.{HasSpanRoom, SpanPutBy}
use Rattle.wrp_course.specs.Setting.{Setting}
use Rattle.wrp_plant.specs.Sizes.{IsTimeBy, IsHorizonBy, IsOffBy, IsDelayBy, IsDueBy}
use Rattle.wrp_course.specs.WorldAt.{WorldAt, EndAt, FrameAt, Arrival, Sending, is_on_fibre}
use Rattle.wrp_plant.specs.declared.ends.Delays.{Delays}
use Rattle.wrp_course.specs.declared.fibres.FibreState.{FibreState}
use Rattle.wrp_course.specs.declared.place.Place.{Place}
use Rattle.wrp_course.specs.Moved.{move_of}
use Rattle.wrp_base.specs.Link.{other_of}

-- Lists that stand for functions of numbers

-- P holds of each element of the list and its place, counted from 0
abbrev pub Each : {A : Type 0} → (ℕ → A → Type 0) → List A → Type 0
Each {A} P xs = (n : ℕ) (x : A) → slice_get xs n ≡ Some x → P n x

-- What each part of the code stands for

-- a frame that a port put out: its octets spell its message
pub record PutOutIs (sending : Sending) (out : PutOut) : Type 0 where
  pub octets : out.octets.items ≡ octets_of sending.message
  pub says : Spells out.octets.items sending.message
  pub at : out.at ≡ sending.at

pub record EndIs (at : EndAt) (end : EndState) : Type 0 where
  pub name : end.name.bytes ≡ at.name
  pub tx : end.tx ≡ at.tx
  pub rx : end.rx ≡ at.rx
  pub waiting : AllZip PutOutIs at.waiting end.waiting.items
  pub marks : end.marks.items ≡ reverse at.marks

-- the end of a link with this role
abbrev pub end_in : Span → Role → EndState
end_in span Master = span.master
end_in span Slave = span.slave

-- the true one-way delays down and up, in tau: the fibre's and both ports'
abbrev pub down_in : Span → ℤ
down_in span = (pos span.master.tx +ℤ span.fibre.ms) +ℤ pos span.slave.rx

abbrev pub up_in : Span → ℤ
up_in span = (pos span.slave.tx +ℤ span.fibre.sm) +ℤ pos span.master.rx

-- the true delays of the module installed at an end, in tau
abbrev pub delays_in : EndState → Delays
delays_in end = record { tx = end.tx; rx = end.rx }

-- a fibre after its delays changed
abbrev pub moved_fibre : List (ℤ × ℤ) → ℕ → FibreState → FibreState
moved_fibre moves k fibre =
    record fibre { ms = fibre.ms +ℤ (move_of moves k).0; sm = fibre.sm +ℤ (move_of moves k).1 }

pub record SpanIs (w : WorldAt) (k : ℕ) (span : Span) : Type 0 where
  pub fibre : span.fibre ≡ w.fibre k
  pub master : EndIs (w.end_at k Master) span.master
  pub slave : EndIs (w.end_at k Slave) span.slave

-- the arrival of a frame
pub record ReceptionIs (arrival : Arrival) (reception : Reception) : Type 0 where
  pub raw : reception.raw ≡ arrival.raw
  pub sample : reception.sample ≡ arrival.sample

abbrev pub MaybeIs : {A B : Type 0} → (A → B → Type 0) → Option A → Option B → Type 0
MaybeIs R None None = Unit {0}
MaybeIs R (Some a) (Some b) = R a b
MaybeIs R _ _ = ⊥

pub record DepartedIs (f : FrameAt) (d : Departed) : Type 0 where
  pub link : d.link ≡ f.link
  pub by : d.by ≡ f.by
  pub octets : d.octets.items ≡ octets_of f.sending.message
  pub says : Spells d.octets.items f.sending.message
  pub sent : d.sent ≡ f.sending.at
  pub due : d.due ≡ f.due
  pub arrival : MaybeIs ReceptionIs f.arrival d.arrival
  pub gone : d.gone ≡ f.gone

-- the end at which a frame arrives
abbrev pub end_to : FrameAt → Place
end_to f = record { link = f.link; role = other_of f.by }

-- a frame of the state is on a fibre, or was put out at this time or later
abbrev pub is_kept_since : (horizon : ℤ) → Option FrameAt → Bool
is_kept_since horizon None = false
is_kept_since horizon (Some f) = is_on_fibre (Some f) || le_z horizon f.sending.at

abbrev pub kept_since : (horizon : ℤ) → Option FrameAt → Option FrameAt
kept_since horizon o = if is_kept_since horizon o then o else None

-- the code knows when each frame of the state was put out; it keeps the frames that are on a fibre, or were put out at
-- most a frame's life ago
pub record FramesAre (s : Setting) (w : WorldAt) (frames : FramesAt) : Type 0 where
  pub horizon : frames.horizon ≡ w.time -ℤ pos (frame_life s.cfg)
  pub count : length frames.sent ≡ w.departed
  pub sent : (i : ℕ) → sent_at i frames.sent ≡ option_map (λ f. f.sending.at) (w.frame i)
  pub each : (i : ℕ) → MaybeIs DepartedIs (kept_since frames.horizon (w.frame i)) (at i frames.kept)

-- the plant stands for this state of a world with this setting
pub record PlantIs (s : Setting) (w : WorldAt) (plant : Plant) : Type 0 where
  pub cfg : plant.net.cfg ≡ s.cfg
  pub db : plant.net.db ≡ s.db
  pub time : plant.time ≡ w.time
  pub count : plant.events ≡ w.count
  pub clocks : Each (λ n clock. clock ≡ w.clock n) plant.clocks.items
  pub spans : Each (SpanIs w) plant.spans.items
  pub frames : FramesAre s w plant.frames

-- What a plant keeps

-- an end of a link: the times at which its waiting frames were put out are in range
pub record FitsEnd (events : ℕ) (end : EndState) : Type 0 where
  pub waiting : Each (λ i out. IsTimeBy events out.at) end.waiting.items

pub record FitsSpan (events : ℕ) (span : Span) : Type 0 where
  pub ms : IsDelayBy events span.fibre.ms
  pub sm : IsDelayBy events span.fibre.sm
  pub master : FitsEnd events span.master
  pub slave : FitsEnd events span.slave

pub record FitsClock (events : ℕ) (clock : ClockState) : Type 0 where
  pub off : IsOffBy events clock.off
  pub ticked : IsTimeBy events clock.ticked
  pub samples : clock.samples ≤ events

pub record FitsDeparted (links events : ℕ) (d : Departed) : Type 0 where
  pub link : d.link < links
  pub sent : IsTimeBy events d.sent
  pub due : IsDueBy events d.due
  pub raw : IfSome d.arrival (λ reception. IsRaw reception.raw)

pub record FitsFrames (links events : ℕ) (frames : FramesAt) : Type 0 where
  pub horizon : IsHorizonBy events frames.horizon
  pub count : length frames.sent ≤ events
  pub sent : (i : ℕ) (t : ℤ) → sent_at i frames.sent ≡ Some t → IsTimeBy events t
  pub each : (i : ℕ) (d : Departed) → at i frames.kept ≡ Some d → FitsDeparted links events d

-- an accepted network, a clock for each node, a state for each link, numbers in their ranges, room at each end for the
-- spare steps, no waiting frame that was put out after the last put time, and the grandmaster
pub record FitsPlant (plant : Plant) : Type 0 where
  pub accepted : IsAccepted plant.net.cfg plant.net.db
  pub clock_count : length plant.clocks.items ≡ length plant.net.cfg.nodes.items
  pub span_count : length plant.spans.items ≡ length plant.net.cfg.links.items
  pub events : plant.events < 2 ^ 32
  pub time : IsTimeBy plant.events plant.time
  pub clocks : Each (λ n. FitsClock plant.events) plant.clocks.items
  pub spans : Each (λ k. FitsSpan plant.events) plant.spans.items
  pub frames : FitsFrames (length plant.net.cfg.links.items) plant.events plant.frames
  pub room : Each (λ k. HasSpanRoom plant.spare) plant.spans.items
  pub puts : Each (λ k. SpanPutBy plant.last_put) plant.spans.items
  pub put : plant.last_put ≤ℤ plant.time
  pub top : IsGrandmaster plant.net.cfg plant.top
