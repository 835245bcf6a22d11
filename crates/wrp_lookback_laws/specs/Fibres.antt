-- Which frames are on a fibre, by looking back over the events, the newest first: a frame departed, and since then it
-- did not arrive, its link did not lose it, and no younger frame of its direction arrived. The world gives which frames
-- exist, with their link and sending end (this project's profile).
use Rattle.std.specs.Prelude.{◌≡◌, ◌↔◌, ◌==◌, ◌&&◌, ◌||◌, ℕ, nat_lt, Bool, true, false, is_some, Option, None, Some, List, [], ◌∷◌, ◌++◌}
use Rattle.wrp_base.specs.declared.link.Role.{Role}
use Rattle.wrp_course.specs.declared.event.Event.{Event}
use Rattle.wrp_course.specs.declared.event.Event.TheVariants.{Arrive}
use Rattle.wrp_course.specs.Moved.{loses}
use Rattle.wrp_course.specs.Run.{Happened, world_after}
use Rattle.wrp_course.specs.Setting.{Setting, is_role}
use Rattle.wrp_course.specs.WorldAt.{WorldAt, FrameAt, is_on_fibre}

-- a frame is of this link, and was sent by this end
abbrev pub is_of_way : ℕ → Role → Option FrameAt → Bool
is_of_way k r None = false
is_of_way k r (Some g) = (k == g.link) && is_role r g.by

-- an event takes frame i, of this link and from this end, off its fibre: it arrives, or a younger one of its direction does,
-- or the link loses the frames that are on its fibre
abbrev pub takes_off : Setting → WorldAt → ℕ → ℕ → Role → Event → Bool
takes_off s w i k r (Arrive j raw) = (i == j) || (nat_lt i j && is_of_way k r (w.frame j))
takes_off s w i k r e = loses s e k

-- none of these events, each after all those before it, does
abbrev pub NoneTakes : Setting → ℕ → ℕ → Role → List Happened → List Happened → Type 0
NoneTakes s i k r [] before = Unit {0}
NoneTakes s i k r (h ∷ since) before =
    (takes_off s (world_after s (since ++ before)) i k r h.event ≡ false) × NoneTakes s i k r since before

-- frame i departed by one of these events, and none since took it off its fibre
pub record StillFlies (s : Setting) (events : List Happened) (i k : ℕ) (r : Role) : Type 0 where
  pub since : List Happened
  pub departure : Happened
  pub before : List Happened
  pub splits : events ≡ since ++ departure ∷ before
  pub absent : is_some ((world_after s before).frame i) ≡ false
  pub departs : is_some ((world_after s (departure ∷ before)).frame i) ≡ true
  pub none : NoneTakes s i k r since (departure ∷ before)

-- a frame that departed is on a fibre if and only if that holds of it
abbrev pub FibresLookBack : Type 0
FibresLookBack =
    (s : Setting) (events : List Happened) (i : ℕ) (f : FrameAt) → (world_after s events).frame i ≡ Some f →
    (is_on_fibre (Some f) ≡ true) ↔ StillFlies s events i f.link f.by
