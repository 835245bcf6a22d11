-- What the stretches of a port's history are, without the recursion that finds them. This project's
-- profile.
use Rattle.std.specs.Prelude.{◌≡◌, ◌≢◌, List, [], ◌∷◌}
use Rattle.std.specs.List.{AllByRecursion, flat_map}
use Rattle.wrp_base.specs.declared.link.LinkState.{LinkState}
use Rattle.wrp_base.specs.declared.link.LinkState.TheVariants.{Idle}
use Rattle.wrp_base.specs.declared.link.Mark.{Mark}
use Rattle.wrp_check.specs.Stretches.{stretches_of}

-- the state to which a history led
abbrev pub state_after : List Mark → LinkState
state_after [] = Idle
state_after (mark ∷ marks) = mark.to

-- the marks of a port, the newest first: each is a change of the state to which those before it led
abbrev pub IsHistory : List Mark → Type 0
IsHistory [] = Unit {0}
IsHistory (mark ∷ marks) = (mark.from ≡ state_after marks) × (mark.from ≢ mark.to) × IsHistory marks

-- a part of a history outside IDLE: its oldest mark leaves IDLE, and no mark before its newest leads back
abbrev pub IsOutside : List Mark → Type 0
IsOutside [] = ⊥
IsOutside (mark ∷ []) = mark.from ≡ Idle
IsOutside (mark ∷ older ∷ marks) = (older.to ≢ Idle) × IsOutside (older ∷ marks)

-- the newest mark of a part leads to IDLE
abbrev pub EndsInIdle : List Mark → Type 0
EndsInIdle [] = ⊥
EndsInIdle (mark ∷ marks) = mark.to ≡ Idle

-- parts one after the other, of which only the newest may not have ended
abbrev pub AllEnded : List (List Mark) → Type 0
AllEnded [] = Unit {0}
AllEnded (newest ∷ older) = AllByRecursion (λ part. EndsInIdle part) older

-- the stretches of a history are its parts outside IDLE: together they are the whole history, and each but the newest
-- ended with the mark to IDLE
pub record AreParts (marks : List Mark) (parts : List (List Mark)) : Type 0 where
  pub whole : marks ≡ flat_map (λ part. part) parts
  pub outside : AllByRecursion (λ part. IsOutside part) parts
  pub ended : AllEnded parts

-- for each history, the stretches that the recursion finds are its parts outside IDLE
abbrev pub StretchesAreParts : Type 0
StretchesAreParts = (marks : List Mark) → IsHistory marks → AreParts marks (stretches_of marks)
