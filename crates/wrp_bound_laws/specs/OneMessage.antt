-- Which pieces are of one and the same message, in every run: the Sync that a slave's exchange holds and its
-- Follow_Ups; and a slave's newest Delay_Req, the sending that is reported of it, and its Delay_Resps (IEEE 1588-2019;
-- how long a frame may be on its way is this project's profile).
use Rattle.std.specs.Prelude.{◌≡◌, ◌≤◌, ◌+◌, ◌+ℤ◌, ◌≤ℤ◌, ℕ, pos, true, is_some, List, ◌∷◌, ◌++◌, length, Some, IfSome}
use Rattle.wrp_base.specs.declared.link.Role.{Role}
use Rattle.wrp_base.specs.declared.link.Role.TheVariants.{Master, Slave}
use Rattle.wrp_base.specs.declared.message.Body.TheVariants.{DelayResp, FollowUp}
use Rattle.wrp_base.specs.declared.message.PortIdentity.{PortIdentity}
use Rattle.wrp_network.specs.declared.network.LinkCfg.{LinkCfg}
use Rattle.wrp_base.specs.declared.time.Ts.{Ts}
use Rattle.wrp_bounds.specs.Times.{frame_life}
use Rattle.wrp_exch.specs.declared.delay.Sent.{Sent}
use Rattle.wrp_exch.specs.declared.sync.HeldSync.{HeldSync}
use Rattle.wrp_exch.specs.DelayPair.{first_sent, last_request}
use Rattle.wrp_exch.specs.Samples.{last_samples, phase_in}
use Rattle.wrp_exch.specs.SyncHalf.{pending_sync}
use Rattle.wrp_node.specs.NodeAt.{setting_of}
use Rattle.wrp_node.specs.NodeStep.{stamp_of}
use Rattle.wrp_port.specs.Messages.{follow_up_of, response_of}
use Rattle.wrp_course.specs.declared.event.Event.TheVariants.{Deliver}
use Rattle.wrp_course.specs.Run.{Happened, world_after}
use Rattle.wrp_course.specs.Runs.{IsRun, WasPutOut}
use Rattle.wrp_course.specs.Setting.{Setting, link_of, node_setting_of}
use Rattle.wrp_course.specs.WorldAt.{Arrival, FrameAt, Sending, WorldAt}
use Rattle.wrp_bound_laws.specs.Chains.{AllFit}
use Rattle.wrp_bound_laws.specs.Exchanges.{exchange_at, ring_below}
use Rattle.wrp_bound_laws.specs.SequenceIds.{IsTimed}

-- Frames that can still be delivered

-- an end of a link put a frame out, and it is no older than a frame's life: so it is taken for one that can still be
-- delivered at the other end, whether it waits, is on the fibre, has arrived, was delivered before, or was lost
-- meanwhile
pub record CanComeStill (s : Setting) (w : WorldAt) (k : ℕ) (r : Role) (x : Sending) : Type 0 where
  pub put : WasPutOut x (w.end_at k r).sent
  pub young : w.time ≤ℤ (x.at +ℤ pos (frame_life s.cfg))

-- of the frames that were put out by the end of the older events, only such frames are delivered after them
abbrev pub OnlySuchComeStill : Type 0
OnlySuchComeStill =
    (s : Setting) (h : Happened) (newer older : List Happened) (i : ℕ) (f : FrameAt) → IsRun s (h ∷ (newer ++ older)) →
    h.event ≡ Deliver i → (world_after s (newer ++ older)).frame i ≡ Some f → f.sending.moment ≤ length older →
    CanComeStill s (world_after s older) f.link f.by f.sending

-- Frames

-- the frame of a message that an end of a link put out, once it departed
pub record FrameOf (w : WorldAt) (k : ℕ) (r : Role) (x : Sending) : Type 0 where
  pub number : ℕ
  pub frame : FrameAt
  pub there : w.frame number ≡ Some frame
  pub link_is : frame.link ≡ k
  pub by_is : frame.by ≡ r
  pub sending_is : frame.sending ≡ x

-- it was delivered in an event after these older ones
pub record DeliveredAfter (events older : List Happened) {w : WorldAt} {k : ℕ} {r : Role} {x : Sending} (f : FrameOf w k r x) : Type 0 where
  pub newer : List Happened
  pub hands : Happened
  pub splits : events ≡ newer ++ hands ∷ older
  pub event : hands.event ≡ Deliver f.number
  pub arrival : Arrival
  pub arrived : f.frame.arrival ≡ Some arrival

-- The pieces of a Sync

-- the Sync that the exchange of a slave holds is this frame, as it was delivered: with the stamp of its reception, and
-- the sample that the stamp latched
pub record IsHeldOf (s : Setting) (events : List Happened) (k : ℕ) (link : LinkCfg) {x : Sending} (f : FrameOf (world_after s events) k Master x) (held : HeldSync) : Type 0 where
  pub older : List Happened
  pub delivered : DeliveredAfter events older f
  pub seq : held.seq ≡ x.message.head.seq
  pub correction : held.correction ≡ x.message.head.correction
  pub t2 :
      held.t2
      ≡ (stamp_of (node_setting_of s link.lower) ((world_after s older).node link.lower) link.lower_port delivered.arrival.raw delivered.arrival.sample).value
  pub sample : held.sample ≡ delivered.arrival.sample

-- a Follow_Up is the one that the master's port put out in the event in which that frame departed: it carries the stamp
-- of that departure
pub record IsFollowUpOf (s : Setting) (link : LinkCfg) {w : WorldAt} {k : ℕ} {x : Sending} (f : FrameOf w k Master x) (y : Sending) : Type 0 where
  pub samples : ℕ
  pub message :
      y.message
      ≡ follow_up_of (setting_of (s.set link.upper) link.upper_port) x.message.head.seq (record { value = f.frame.stamp; sample = samples })
  pub at : y.at ≡ f.frame.at
  pub moment : y.moment ≡ f.frame.moment + 1

-- the held Sync, and each Follow_Up of its sequenceId that can still be delivered, are of one Sync
pub record OfOneSync (s : Setting) (events : List Happened) (k : ℕ) (link : LinkCfg) (held : HeldSync) : Type 0 where
  pub sync : Sending
  pub is_sync : IsTimed Master sync.message.body
  pub frame : FrameOf (world_after s events) k Master sync
  pub held_is : IsHeldOf s events k link frame held
  pub follow_ups :
      (y : Sending) (precise : Ts) → CanComeStill s (world_after s events) k Master y → y.message.body ≡ FollowUp precise →
      y.message.head.seq ≡ held.seq → IsFollowUpOf s link frame y

-- The pieces of a Delay_Req

-- the newest Delay_Req that the slave of a link put out
pub record NewestRequest (s : Setting) (events : List Happened) (k : ℕ) (x : Sending) : Type 0 where
  pub put : WasPutOut x ((world_after s events).end_at k Slave).sent
  pub request : IsTimed Slave x.message.body
  pub newest :
      (y : Sending) → WasPutOut y ((world_after s events).end_at k Slave).sent → IsTimed Slave y.message.body → y.moment ≤ x.moment

-- a Delay_Resp is the one that the master's port put out when a frame of this Delay_Req was delivered: it carries the
-- stamp of that reception
pub record IsResponseTo (s : Setting) (events : List Happened) (k : ℕ) (link : LinkCfg) (x y : Sending) : Type 0 where
  pub frame : FrameOf (world_after s events) k Slave x
  pub older : List Happened
  pub delivered : DeliveredAfter events older frame
  pub message :
      y.message
      ≡ response_of (setting_of (s.set link.upper) link.upper_port) x.message.head
      (stamp_of (node_setting_of s link.upper) ((world_after s older).node link.upper) link.upper_port delivered.arrival.raw delivered.arrival.sample)
  pub at : y.at ≡ (world_after s older).time
  pub moment : y.moment ≡ length older + 1

-- a sending that the exchange keeps has the stamp of the departure of this Delay_Req
pub record IsSentOf (w : WorldAt) (k : ℕ) (x : Sending) (kept : Sent) : Type 0 where
  pub frame : FrameOf w k Slave x
  pub t3 : kept.t3 ≡ frame.frame.stamp

-- the slave's newest Delay_Req; each sending with its sequenceId that was reported since it was put out, in the event
-- in which a frame departed; what the exchange keeps of the last request; and each Delay_Req and each Delay_Resp of its
-- sequenceId that can still be delivered, are of one Delay_Req
pub record OfOneRequest (s : Setting) (events : List Happened) (k : ℕ) (link : LinkCfg) (x : Sending) : Type 0 where
  pub told :
      (z : Sending) (f : FrameOf (world_after s events) k Slave z) → IsTimed Slave z.message.body →
      z.message.head.seq ≡ x.message.head.seq → x.moment ≤ f.frame.moment → z ≡ x
  pub kept :
      IfSome (last_request (exchange_at s link events))
      (λ id. (id ≡ x.message.head.seq)
      × IfSome (first_sent (ring_below s link) (exchange_at s link events)) (IsSentOf (world_after s events) k x))
  pub requests :
      (z : Sending) → CanComeStill s (world_after s events) k Slave z → IsTimed Slave z.message.body →
      z.message.head.seq ≡ x.message.head.seq → z ≡ x
  pub responses :
      (y : Sending) (receive : Ts) (requesting : PortIdentity) → CanComeStill s (world_after s events) k Master y →
      y.message.body ≡ DelayResp receive requesting → y.message.head.seq ≡ x.message.head.seq → IsResponseTo s events k link x y

-- This holds after every event of every run

-- a Sync is pending in the exchange below a link, and the sample that it latched is still in the ring
pub record PendsInRing (s : Setting) (events : List Happened) (link : LinkCfg) (held : HeldSync) : Type 0 where
  pub pends : pending_sync (ring_below s link) (exchange_at s link events) ≡ Some held
  pub in_ring : is_some (phase_in (last_samples (ring_below s link) (exchange_at s link events)) held.sample) ≡ true

pub record PiecesOfOneMessage (s : Setting) (events : List Happened) (k : ℕ) (link : LinkCfg) : Type 0 where
  pub sync : (held : HeldSync) → PendsInRing s events link held → OfOneSync s events k link held
  pub request : (x : Sending) → NewestRequest s events k x → OfOneRequest s events k link x

abbrev pub PiecesAreOfOneMessage : Type 0
PiecesAreOfOneMessage =
    (s : Setting) (events : List Happened) (k : ℕ) (link : LinkCfg) → IsRun s events → AllFit events → link_of s k ≡ Some link →
    PiecesOfOneMessage s events k link
