-- What the calls of a link do to the list of calls that it reports and to what waits at its ends (this project's
-- profile).
use Rattle.std.specs.Prelude.{◌≡◌, ◌≢◌, ℕ, ◌+◌, ◌-◌, ◌%◌, ◌==◌, if◌then◌else◌, Bool, List, [], ◌∷◌, ◌++◌, Option, Some, None, Result, IfSome, MatchResult, MatchBool}
use Rattle.std.specs.Option.{option_map}
use Rattle.arrayvec.specs.ArrayVec.{ArrayVec}
use Rattle.wrp_io.specs.declared.link.LinkCall.{LinkCall}

-- the other end of the same link: link number k has the end 2k above and the end 2k + 1 below
abbrev pub other_end : ℕ → ℕ
other_end end = if end % 2 == 0 then end + 1 else end - 1

-- the frame of these octets
abbrev pub frame_of : List ℕ → ArrayVec ℕ
frame_of octets = record { items = octets }

-- the octets of a frame, if there is one
abbrev pub octets_of : Option (ArrayVec ℕ) → Option (List ℕ)
octets_of found = option_map (λ frame. frame.items) found

-- the frame that a `recv` answers: the frame of the octets, if its answer is true
abbrev pub answered : Bool → List ℕ → Option (ArrayVec ℕ)
answered answer octets = if answer then Some (frame_of octets) else None

-- a call that answers Ok is the last one reported, with its answer; one that fails is not reported
abbrev pub Tells : {T E : Type 0} → Option (List LinkCall) → Option (List LinkCall) → Result T E
    → (T → LinkCall) → Type 0
Tells before now result call =
    MatchResult result
    (λ answer. now ≡ option_map (λ calls. calls ++ call answer ∷ []) before)
    (λ _. now ≡ before)

-- what waits at each end, in the order of waiting, if it is reported
abbrev pub FramesWaiting : Type 0
FramesWaiting = ℕ → Option (List (List ℕ))

-- the same waits at every end
abbrev pub SameWaits : FramesWaiting → FramesWaiting → Type 0
SameWaits before now = (end : ℕ) → now end ≡ before end

-- the octets wait after those that waited at this end before, and at the other ends the same waits
pub record PutsAt (before now : FramesWaiting) (end : ℕ) (octets : List ℕ) : Type 0 where
  pub last : now end ≡ option_map (λ waiting. waiting ++ octets ∷ []) (before end)
  pub elsewhere : (other : ℕ) → other ≢ end → now other ≡ before other

-- the octets waited longest at this end and wait no more, and at the other ends the same waits
pub record TakesFrom (before now : FramesWaiting) (end : ℕ) (octets : List ℕ) : Type 0 where
  pub first : before end ≡ option_map (λ waiting. octets ∷ waiting) (now end)
  pub elsewhere : (other : ℕ) → other ≢ end → now other ≡ before other

-- nothing waited at this end, and the same waits everywhere
pub record FindsNone (before now : FramesWaiting) (end : ℕ) : Type 0 where
  pub none : IfSome (before end) (λ waiting. waiting ≡ [])
  pub same : SameWaits before now

-- what a `send` from this end leaves waiting
abbrev pub Sends : {E : Type 0} → FramesWaiting → FramesWaiting → Result (Unit {0}) E → ℕ → List ℕ
    → Type 0
Sends before now result end octets =
    MatchResult result (λ _. PutsAt before now (other_end end) octets) (λ _. SameWaits before now)

-- what a `recv` at this end leaves waiting, if these are the octets of its frame
abbrev pub Receives : {E : Type 0} → FramesWaiting → FramesWaiting → Result Bool E → ℕ → List ℕ
    → Type 0
Receives before now result end octets =
    MatchResult result
    (λ answer. MatchBool answer (TakesFrom before now end octets) (FindsNone before now end))
    (λ _. SameWaits before now)
