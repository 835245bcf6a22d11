-- The frames that arrived, as the code keeps them, and which of them a datagram is (this project's profile).
use Rattle.std.specs.Prelude.{◌≡◌, ◌≤◌, ◌-ℤ◌, ◌≤ℤ◌, ◌⊎◌, ◌==◌, ◌&&◌, ◌||◌, ℕ, ℤ, nat_eq, pos, min, max, Bool, true, false, List, [], ◌∷◌, ◌++◌, Option, None, Some}
use Rattle.std.specs.Cmp.Lexicographic.{pointwise}
use Rattle.std.specs.List.{AllByRecursion}
use Rattle.std.specs.Option.{is_some, option_map_or, option_or}
use Rattle.wrp_bounds.specs.Times.{frame_life}
use Rattle.wrp_course.specs.Run.{Happened, world_after}
use Rattle.wrp_course.specs.Setting.{Setting}
use Rattle.wrp_course.specs.Views.{octets_at}
use Rattle.wrp_course.specs.WorldAt.{FrameAt, WorldAt}
use Rattle.wrp_world.specs.StandsFor.{StandsFor, WorldOf}
use Rattle.wrp_loop.specs.declared.index.Came.{Came}
use Rattle.wrp_loop.specs.declared.index.Choice.{Choice}
use Rattle.wrp_loop.specs.Datagrams.{end_number, handed_in}

-- The choice, frame by frame

abbrev pub no_choice : Choice
no_choice = record { least = None; greatest = None }

-- the lesser and the greater of two numbers, the first of which may be missing
abbrev pub lesser : Option ℕ → ℕ → ℕ
lesser found number = option_map_or (λ other. min other number) found number

abbrev pub greater : Option ℕ → ℕ → ℕ
greater found number = option_map_or (λ other. max other number) found number

-- the choice with one more frame, which may be what is looked for, and may have been handed over
abbrev pub with_frame : (fits handed : Bool) → ℕ → Choice → Choice
with_frame false handed number choice = choice
with_frame true true number choice = record choice { greatest = Some (greater choice.greatest number) }
with_frame true false number choice =
    record { least = Some (lesser choice.least number); greatest = Some (greater choice.greatest number) }

abbrev pub with_all : (fits : Came → Bool) → (handed : ℕ → Bool) → List Came → Choice → Choice
with_all fits handed [] choice = choice
with_all fits handed (c ∷ came) choice =
    with_all fits handed came (with_frame (fits c) (handed c.number) c.number choice)

-- the least that is open, or else the greatest
abbrev pub chosen : Choice → Option ℕ
chosen choice = option_or choice.least choice.greatest

-- What is looked for

-- these are the octets of a frame that is kept
abbrev pub has_octets : Setting → WorldAt → List ℕ → ℕ → Bool
has_octets s w octets number = option_map_or (λ found. pointwise nat_eq found octets) (octets_at s w number) false

abbrev pub fits : Setting → WorldAt → (from : ℕ) → List ℕ → Came → Bool
fits s w from octets c = (c.from == from) && has_octets s w octets c.number

-- a frame with this number is among these
abbrev pub has_number : List Came → ℕ → Bool
has_number [] number = false
has_number (c ∷ came) number = (c.number == number) || has_number came number

-- What the lists hold

abbrev pub In : Came → List Came → Type 0
In c [] = ⊥
In c (d ∷ came) = (c ≡ d) ⊎ In c came

abbrev pub came_at : ℕ → ℕ → Came
came_at number from = record { number = number; from = from }

-- it was put out at most a frame's life ago
abbrev pub IsYoung : Setting → WorldAt → FrameAt → Type 0
IsYoung s w f = (w.time -ℤ f.sending.at) ≤ℤ pos (frame_life s.cfg)

-- the number was given, to a frame that has arrived
pub record HasArrived (w : WorldAt) (i : ℕ) : Type 0 where
  pub given : i ≤ w.departed
  pub arrived : (f : FrameAt) → w.frame i ≡ Some f → is_some f.arrival ≡ true

-- an entry belongs to such a frame, and has the end that sent it
pub record IsEntry (w : WorldAt) (c : Came) : Type 0 where
  pub here : HasArrived w c.number
  pub sent : (f : FrameAt) → w.frame c.number ≡ Some f → c.from ≡ end_number f.link f.by

-- all frames that have arrived and are young are listed, and for each it is shown whether it was handed
-- over
pub record IsIndex (s : Setting) (events : List Happened) (came handed : List Came) : Type 0 where
  pub each : (c : Came) → In c came → IsEntry (world_after s events) c
  pub all :
      (i : ℕ) (f : FrameAt) → (world_after s events).frame i ≡ Some f → is_some f.arrival ≡ true →
      IsYoung s (world_after s events) f → In (came_at i (end_number f.link f.by)) came
  pub told :
      (i : ℕ) (f : FrameAt) → (world_after s events).frame i ≡ Some f → is_some f.arrival ≡ true →
      IsYoung s (world_after s events) f → has_number handed i ≡ handed_in events i
  pub only : (i : ℕ) → has_number handed i ≡ true → handed_in events i ≡ true
  pub done : (i : ℕ) → handed_in events i ≡ true → HasArrived (world_after s events) i

-- the first of these are forgotten, and none of them is kept any longer
pub record Forgets {F : Type 0} (post : F → ℤ → ℤ → Type 0) (world : WorldOf F) (old new : List Came) : Type 0 where
  pub first : List Came
  pub are : old ≡ first ++ new
  pub none_kept :
      (s : Setting) (w : WorldAt) → StandsFor post s w world →
      AllByRecursion (λ c. octets_at s w c.number ≡ None) first
