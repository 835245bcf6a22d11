-- What becomes of a datagram that a link gave: it is a frame that is handed over, it is forged, or it is noise (this project's profile).
use Rattle.std.specs.Prelude.{◌≡◌, ℕ, ◌+◌, ◌*◌, ◌<◌, ◌≤◌, ◌==◌, ◌||◌, ◌⊎◌, pos, ◌-ℤ◌, ◌≤ℤ◌, Bool, true, false, List, [], ◌∷◌, Option, None, Some}
use Rattle.std.specs.Option.{is_some}
use Rattle.wrp_base.specs.declared.link.Role.{Role}
use Rattle.wrp_base.specs.declared.link.Role.TheVariants.{Master, Slave}
use Rattle.wrp_base.specs.declared.message.PortIdentity.{PortIdentity}
use Rattle.wrp_base.specs.declared.message.PtpMsg.{PtpMsg}
use Rattle.wrp_base.specs.Message.{is_port}
use Rattle.wrp_network.specs.Network.{End}
use Rattle.wrp_base.specs.Link.{other_of}
use Rattle.wrp_bounds.specs.Times.{frame_life}
use Rattle.wrp_course.specs.declared.event.Event.{Event}
use Rattle.wrp_course.specs.declared.event.Event.TheVariants.{Deliver}
use Rattle.wrp_course.specs.Run.{Happened, world_after}
use Rattle.wrp_course.specs.Setting.{Setting, end_at}
use Rattle.wrp_course.specs.WorldAt.{FrameAt, WorldAt}
use Rattle.wrp_frame.specs.Grammar.{Spells}
use Rattle.wrp_frame.specs.SentOctets.{octets_of}
use Rattle.wrp_node.specs.NodeAt.{port_of}
use Rattle.wrp_loop.specs.declared.fate.Fate.{Fate}
use Rattle.wrp_loop.specs.declared.fate.Fate.TheVariants.{Handed, Forged, Noisy}

-- Ways

-- the number of an end of a link: link number k has the end 2k above and the end 2k + 1 below
abbrev pub end_number : ℕ → Role → ℕ
end_number k Master = 2 * k
end_number k Slave = 2 * k + 1

-- the way of a frame: its link, the end of it that sent the frame, and the port at the other end
pub record Way : Type 0 where
  pub link : ℕ
  pub by : Role
  pub to : End

-- the number of the end where a frame is sent, and of the end where it is received
abbrev pub sending_end : Way → ℕ
sending_end way = end_number way.link way.by

abbrev pub receiving_end : Way → ℕ
receiving_end way = end_number way.link (other_of way.by)

-- it is the way of this frame, whose octets these are
pub record IsWayOf (s : Setting) (frame : FrameAt) (way : Way) (octets : List ℕ) : Type 0 where
  pub link_is : way.link ≡ frame.link
  pub by_is : way.by ≡ frame.by
  pub to_is : end_at s way.link (other_of way.by) ≡ Some way.to
  pub octets_are : octets ≡ octets_of frame.sending.message

-- Which frames a datagram may be

-- frame i went this way and has arrived, was put out at most a frame's life ago, and has these octets
pub record IsSuch (s : Setting) (w : WorldAt) (way : Way) (octets : List ℕ) (i : ℕ) : Type 0 where
  pub frame : FrameAt
  pub is : w.frame i ≡ Some frame
  pub link_is : frame.link ≡ way.link
  pub by_is : frame.by ≡ way.by
  pub arrived : is_some frame.arrival ≡ true
  pub young : (w.time -ℤ frame.sending.at) ≤ℤ pos (frame_life s.cfg)
  pub equals : octets_of frame.sending.message ≡ octets

-- frame i was handed over by one of these events
abbrev pub hands : ℕ → Event → Bool
hands i (Deliver j) = i == j
hands i _ = false

abbrev pub handed_in : List Happened → ℕ → Bool
handed_in [] i = false
handed_in (h ∷ before) i = hands i h.event || handed_in before i

-- Which of them it is

-- the least that was not handed over yet
abbrev pub IsLeastOpen : (Such : ℕ → Type 0) → (handed : ℕ → Bool) → ℕ → Type 0
IsLeastOpen Such handed i = (handed i ≡ false) × ((j : ℕ) → Such j → j < i → handed j ≡ true)

-- the greatest, if all were handed over
abbrev pub IsGreatest : (Such : ℕ → Type 0) → (handed : ℕ → Bool) → ℕ → Type 0
IsGreatest Such handed i = (j : ℕ) → Such j → (handed j ≡ true) × (j ≤ i)

-- it is one of them: the least that was not handed over yet, or else the greatest
pub record IsChoice (Such : ℕ → Type 0) (handed : ℕ → Bool) (i : ℕ) : Type 0 where
  pub such : Such i
  pub which : IsLeastOpen Such handed i ⊎ IsGreatest Such handed i

-- or there is none
abbrev pub Chooses : (Such : ℕ → Type 0) → (handed : ℕ → Bool) → Option ℕ → Type 0
Chooses Such handed None = (j : ℕ) → Such j → ⊥
Chooses Such handed (Some i) = IsChoice Such handed i

-- which frame a datagram is that came this way with these octets, after these events
abbrev pub IsFrameOf : Setting → List Happened → Way → List ℕ → Option ℕ → Type 0
IsFrameOf s events way octets found = Chooses (IsSuch s (world_after s events) way octets) (handed_in events) found

-- What becomes of it

-- the octets say a message of this port
abbrev pub IsBy : PortIdentity → List ℕ → Type 0
IsBy port octets = (message : PtpMsg) × Spells octets message × (is_port message.head.source port ≡ true)

-- they say a message of the peer of this port
abbrev pub IsOfPeer : Setting → End → List ℕ → Type 0
IsOfPeer s to octets = IsBy (port_of (s.set to.node) to.port).peer octets

-- it is a frame, which is handed over; or it says a message of the peer and is no frame of the peer, and is forged; or it is
-- neither, and is noise
abbrev pub IsFate : Setting → List Happened → Way → List ℕ → Fate → Type 0
IsFate s events way octets (Handed i) = IsFrameOf s events way octets (Some i)
IsFate s events way octets Forged = IsFrameOf s events way octets None × IsOfPeer s way.to octets
IsFate s events way octets Noisy = IsFrameOf s events way octets None × (IsOfPeer s way.to octets → ⊥)
