-- What is true of the departure and of the arrival of each frame, in the world before that event (this project's profile).
use Rattle.std.specs.Prelude.{◌≡◌, ℕ, pos, ◌+ℤ◌, ◌-ℤ◌, ◌≤◌, ◌≤ℤ◌, unsigned_abs, true, List, ◌∷◌, ◌++◌, Some, IfSome}
use Rattle.wrp_network.specs.Network.{End}
use Rattle.wrp_base.specs.Link.{other_of}
use Rattle.wrp_bounds.specs.Times.{frame_life}
use Rattle.wrp_course.specs.Laws.{KeepsStamp}
use Rattle.wrp_course.specs.Run.{Happened, world_after}
use Rattle.wrp_course.specs.Runs.{IsRun}
use Rattle.wrp_course.specs.Setting.{Setting, end_at, of_node}
use Rattle.wrp_course.specs.WorldAt.{Arrival, FrameAt, delay_from, has_carrier, reading}

-- one of these events, the newest first, came after these older ones
abbrev pub CameAfter : (events older : List Happened) → Type 0
CameAfter events older = (newer : List Happened) × (h : Happened) × (events ≡ newer ++ h ∷ older)

-- a frame departed from an end with a stamp near the reading of the node there, no older than a frame's life, over a link
-- that had its carrier, and is due after the delay of its way
pub record DepartedSo (s : Setting) (events : List Happened) (f : FrameAt) : Type 0 where
  pub older : List Happened
  pub came : CameAfter events older
  pub end : End
  pub end_is : end_at s f.link f.by ≡ Some end
  pub time : f.at ≡ (world_after s older).time
  pub moment : f.moment ≡ (world_after s older).count
  pub stamp : unsigned_abs (f.stamp -ℤ reading (world_after s older) end.node) ≤ of_node (λ node. node.e_tx) s end.node
  pub young : (f.at -ℤ f.sending.at) ≤ℤ pos (frame_life s.cfg)
  pub carried : has_carrier s (world_after s older) f.link ≡ true
  pub due : f.due ≡ f.at +ℤ delay_from (world_after s older) f.link f.by

-- a frame arrived at the other end with a raw stamp that keeps the stamp bound about the reading of the node there, and
-- with the number of that node's last sample, over a link that had its carrier
pub record ArrivedSo (s : Setting) (events : List Happened) (f : FrameAt) (a : Arrival) : Type 0 where
  pub older : List Happened
  pub came : CameAfter events older
  pub end : End
  pub end_is : end_at s f.link (other_of f.by) ≡ Some end
  pub time : a.at ≡ (world_after s older).time
  pub moment : a.moment ≡ (world_after s older).count
  pub raw : KeepsStamp s (world_after s older) f a.raw end
  pub sample : a.sample ≡ ((world_after s older).clock end.node).samples
  pub carried : has_carrier s (world_after s older) f.link ≡ true

-- each frame that departed in a run departed like this, and each that arrived arrived like this
abbrev pub FramesAreStamped : Type 0
FramesAreStamped =
    (s : Setting) (events : List Happened) (i : ℕ) (f : FrameAt) → IsRun s events → (world_after s events).frame i ≡ Some f →
    DepartedSo s events f × IfSome f.arrival (ArrivedSo s events f)
