-- What holds of every world and every event (this project's profile).
use Rattle.std.specs.Prelude.{◌≡◌, ℕ, [], None, Some, Result}
use Rattle.wrp_base.specs.declared.message.PtpMsg.{PtpMsg}
use Rattle.wrp_network.specs.declared.network.LinkCfg.{LinkCfg}
use Rattle.wrp_base.specs.declared.time.Raw.{Raw}
use Rattle.wrp_network.specs.Network.{End}
use Rattle.wrp_base.specs.Link.{other_of}
use Rattle.wrp_frame.specs.declared.fault.FrameFault.{FrameFault}
use Rattle.wrp_phase.specs.BeatPattern.{KeepsBeatPattern}
use Rattle.wrp_stamp.specs.StampBound.{KeepsStampBound}
use Rattle.wrp_course.specs.declared.event.Event.{Event}
use Rattle.wrp_course.specs.declared.event.Event.TheVariants.{Arrive, Sample}
use Rattle.wrp_course.specs.Premises.{Accepts, broken}
use Rattle.wrp_stamp.specs.Merge.{transition_of}
use Rattle.wrp_course.specs.Setting.{Setting, above, end_at, entry_at, link_of, of_node, place_of}
use Rattle.wrp_course.specs.Views.{history_of, waiting_of, tick_due, IsNextArrival, kept_count, octets_at, sender_of}
use Rattle.wrp_course.specs.WorldAt.{WorldAt, FrameAt, new_world, phase_of, reading}

-- an event is accepted if and only if no check is the first that fails
abbrev pub AcceptedIsUnbroken : Type 0
AcceptedIsUnbroken =
    (s : Setting) (w : WorldAt) (says : Result PtpMsg FrameFault) (e : Event) →
    (Accepts s w says e → broken s w says e ≡ None) × (broken s w says e ≡ None → Accepts s w says e)

-- before any event no node ticks, no port has a history or a frame that waits, no frame departed, and none is kept
pub record IsStill (s : Setting) (w : WorldAt) : Type 0 where
  pub ticks : (n : ℕ) → tick_due s w n ≡ None
  pub histories : (n p : ℕ) → history_of w (place_of s n p) ≡ []
  pub waiting : (n p : ℕ) → waiting_of s w n p ≡ None
  pub arrivals : IsNextArrival w None
  pub frames : (i : ℕ) → w.frame i ≡ None
  pub kept : kept_count s w ≡ 0
  pub octets : (i : ℕ) → octets_at s w i ≡ None
  pub senders : (i : ℕ) → sender_of s w i ≡ None

-- the world of any setting is still before its first event
abbrev pub NewWorldIsStill : Type 0
NewWorldIsStill = (s : Setting) → IsStill s (new_world s)

-- the true reading at the arrival of a frame, at the end that receives it, and the error that its tag may have there
abbrev pub KeepsStamp : Setting → WorldAt → FrameAt → Raw → End → Type 0
KeepsStamp s w f raw end =
    KeepsStampBound s.cfg.clock raw
    (transition_of (entry_at s f.link (other_of f.by) (w.end_at f.link (other_of f.by)).name))
    (of_node (λ node. node.e_tag) s end.node) (reading w end.node)

-- the raw stamp of each accepted arrival keeps the stamp bound about the reading of the node that receives the frame
abbrev pub ArrivalKeepsStampBound : Type 0
ArrivalKeepsStampBound =
    (s : Setting) (w : WorldAt) (says : Result PtpMsg FrameFault) (i : ℕ) (raw : Raw) (f : FrameAt) (end : End) →
    Accepts s w says (Arrive i raw) → w.frame i ≡ Some f → end_at s f.link (other_of f.by) ≡ Some end →
    KeepsStamp s w f raw end

-- the beat bits of each accepted sample keep the beat pattern about the true phase of the node against its parent
abbrev pub SampleKeepsBeatPattern : Type 0
SampleKeepsBeatPattern =
    (s : Setting) (w : WorldAt) (says : Result PtpMsg FrameFault) (n base bits k : ℕ) (link : LinkCfg) →
    Accepts s w says (Sample n base bits) → above s n ≡ Some k → link_of s k ≡ Some link →
    KeepsBeatPattern s.cfg.clock base bits (of_node (λ node. node.beat) s n) (phase_of w k link)
