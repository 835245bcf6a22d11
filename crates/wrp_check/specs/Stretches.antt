-- A port's history as a list of its marks, the newest first, and the stretches that it consists of: the
-- parts from a mark that leaves IDLE to the mark that leads back to IDLE, or to the end of the history.
-- This project's profile.
use Rattle.std.specs.Prelude.{◌≡◌, ◌⊎◌, ℤ, ◌≤ℤ◌, Bool, true, false, if◌then◌else◌, List, [], ◌∷◌, Option, None, Some}
use Rattle.std.specs.List.{AllByRecursion}
use Rattle.wrp_base.specs.declared.link.LinkState.{LinkState}
use Rattle.wrp_base.specs.declared.link.LinkState.TheVariants.{Idle}
use Rattle.wrp_base.specs.declared.link.Mark.{Mark}
use Rattle.wrp_base.specs.declared.message.WrMsg.{WrMsg}
use Rattle.wrp_base.specs.declared.message.WrMsg.TheVariants.{Present as SLAVE_PRESENT}

-- whether a state is IDLE
abbrev pub is_idle : LinkState → Bool
is_idle Idle = true
is_idle _ = false

-- a mark that begins no stretch belongs to the newest one
abbrev pub joined : Mark → List (List Mark) → List (List Mark)
joined mark [] = (mark ∷ []) ∷ []
joined mark (stretch ∷ stretches) = (mark ∷ stretch) ∷ stretches

-- the stretches of a history with one more mark: a mark from IDLE begins a new one
abbrev pub with_mark : Mark → List (List Mark) → List (List Mark)
with_mark mark stretches = if is_idle mark.from then (mark ∷ []) ∷ stretches else joined mark stretches

-- the stretches of a history: the newest first, and in each the newest mark first
abbrev pub stretches_of : List Mark → List (List Mark)
stretches_of [] = []
stretches_of (mark ∷ marks) = with_mark mark (stretches_of marks)

-- the newest stretch; a history without marks has none
abbrev pub newest_of : List (List Mark) → List Mark
newest_of [] = []
newest_of (stretch ∷ stretches) = stretch

-- the first mark of a stretch is not after a time
abbrev pub BeganBy : ℤ → List Mark → Type 0
BeganBy time [] = ⊥
BeganBy time (mark ∷ []) = mark.at ≤ℤ time
BeganBy time (mark ∷ older ∷ marks) = BeganBy time (older ∷ marks)

-- a time is not after the mark to IDLE of a stretch, if it has one
abbrev pub LastsTo : ℤ → List Mark → Type 0
LastsTo time [] = ⊥
LastsTo time (mark ∷ marks) = mark.to ≡ Idle → time ≤ℤ mark.at

-- a time lies in a stretch
pub record LiesIn (time : ℤ) (stretch : List Mark) : Type 0 where
  pub began : BeganBy time stretch
  pub lasts : LastsTo time stretch

-- a time lies in none of some stretches
abbrev pub LiesInNone : ℤ → List (List Mark) → Type 0
LiesInNone time stretches = AllByRecursion (λ stretch. LiesIn time stretch → ⊥) stretches

-- these states, the newest first, were entered in a stretch in their order, at or before a time
abbrev pub Entered : ℤ → List LinkState → List Mark → Type 0
Entered time [] marks = Unit {0}
Entered time (state ∷ states) [] = ⊥
Entered time (state ∷ states) (mark ∷ marks) =
    record { is : mark.to ≡ state; by : mark.at ≤ℤ time; others : Entered time states marks }
    ⊎ Entered time (state ∷ states) marks

-- the message of a mark, with its sending time, before the messages of older marks; SLAVE_PRESENT is left out, since
-- the SLAVE_PRESENT of an earlier stretch may open a master's M_LOCK
abbrev pub with_mover : Option (WrMsg × ℤ) → List (WrMsg × ℤ) → List (WrMsg × ℤ)
with_mover None movers = movers
with_mover (Some (SLAVE_PRESENT, at)) movers = movers
with_mover (Some (message, at)) movers = (message, at) ∷ movers

-- a mark has no message that counts
abbrev pub HasNoMover : Mark → Type 0
HasNoMover mark = (movers : List (WrMsg × ℤ)) → with_mover mark.by movers ≡ movers

-- a mark has this message
abbrev pub HasMover : Mark → WrMsg × ℤ → Type 0
HasMover mark found = (movers : List (WrMsg × ℤ)) → with_mover mark.by movers ≡ found ∷ movers

-- the messages other than SLAVE_PRESENT that moved a port in a stretch, with their sending times, the
-- newest first
abbrev pub movers_of : List Mark → List (WrMsg × ℤ)
movers_of [] = []
movers_of (mark ∷ marks) = with_mover mark.by (movers_of marks)
