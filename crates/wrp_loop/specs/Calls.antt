-- The calls of a link that a loop makes, as a link shows them (this project's profile).
use Rattle.std.specs.Prelude.{◌≡◌, ◌<◌, ◌≤◌, ◌⊎◌, ℕ, zero, suc, List, [], ◌∷◌, ◌++◌, length, map, Option, None, Some}
use Rattle.std.specs.Option.{option_map}
use Rattle.arrayvec.specs.ArrayVec.{ArrayVec}
use Rattle.wrp_base.specs.Octets.{AreOctets}
use Rattle.wrp_io.specs.declared.link.LinkCall.{LinkCall}
use Rattle.wrp_io.specs.declared.link.LinkCall.TheVariants.{Send, Receive}
use Rattle.wrp_io.specs.Link.{frame_of}

-- octets that fit in a frame
abbrev pub IsFrame : ArrayVec ℕ → Type 0
IsFrame frame = AreOctets frame.items × (length frame.items ≤ 256)

-- if a call gave a datagram, it is a frame
abbrev pub IsFrameCall : LinkCall → Type 0
IsFrameCall (Receive end (Some frame)) = IsFrame frame
IsFrameCall _ = Unit {0}

-- a link that showed the first of these shows the second now: these calls came
abbrev pub Grew : Option (List LinkCall) → Option (List LinkCall) → List LinkCall → Type 0
Grew before now calls = now ≡ option_map (λ told. told ++ calls) before

-- the most datagrams that are taken at one arrival
abbrev pub most_taken : ℕ
most_taken = 16

-- up to so many receptions at an end, which gave these datagrams: they stop at the first that gives none
abbrev pub receptions : (end room : ℕ) → List (ArrayVec ℕ) → List LinkCall
receptions end zero got = []
receptions end (suc room) [] = Receive end None ∷ []
receptions end (suc room) (frame ∷ got) = Receive end (Some frame) ∷ receptions end room got

-- the calls at an arrival: a frame's octets are sent at the end that sent the frame, and then datagrams are taken
-- at the other end
abbrev pub arrival_calls : (from to : ℕ) → (octets : List ℕ) → List (ArrayVec ℕ) → List LinkCall
arrival_calls from to octets got = Send from (frame_of octets) ∷ receptions to most_taken got

-- receptions, one after the other, that gave a datagram
abbrev pub taken_calls : (end : ℕ) → List (ArrayVec ℕ) → List LinkCall
taken_calls end got = map (λ frame. Receive end (Some frame)) got

-- receptions that were cut off by one that failed
pub record AreCutTaken (to : ℕ) (calls : List LinkCall) : Type 0 where
  pub got : List (ArrayVec ℕ)
  pub few : length got < most_taken
  pub are : calls ≡ taken_calls to got

-- calls at an arrival that were cut off by one that failed
pub record AreCutExchange (from to : ℕ) (octets : List ℕ) (calls : List LinkCall) : Type 0 where
  pub rest : List LinkCall
  pub taken : AreCutTaken to rest
  pub are : calls ≡ Send from (frame_of octets) ∷ rest

abbrev pub AreCutCalls : (from to : ℕ) → List ℕ → List LinkCall → Type 0
AreCutCalls from to octets calls = (calls ≡ []) ⊎ AreCutExchange from to octets calls
