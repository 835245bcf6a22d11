-- How a loop ends, and the lines of which events have then been written (this project's profile).
use Rattle.std.specs.Prelude.{◌≡◌, ◌⊎◌, ℕ, List, [], ◌++◌, None, Some}
use Rattle.wrp_io.specs.declared.link.LinkCall.{LinkCall}
use Rattle.wrp_sim.specs.Rules.{Next}
use Rattle.wrp_sim.specs.SimRun.{Gives}
use Rattle.wrp_loop.specs.Calls.{AreCutCalls}
use Rattle.wrp_loop.specs.Datagrams.{Way, receiving_end, sending_end}
use Rattle.wrp_loop.specs.LoopRun.{FrameArrives, Going, On, Full, IsCounted, IsFull, LoopAt, Loops, Plan, events_at, place, world_at}
use Rattle.wrp_loop.specs.LoopText.{loop_text}

-- no event comes any more
abbrev pub IsOver : Plan → Going → Type 0
IsOver x (On l) = Gives x.scene x.setting (world_at x l) l.at None
IsOver x (Full l) = ⊥

-- the next event, of the simulator or of a datagram, has too great a number
pub record NextIsTooMany (x : Plan) (l : LoopAt) : Type 0 where
  pub next : Next
  pub gives : Gives x.scene x.setting (world_at x l) l.at (Some next)
  pub counted : IsCounted next.event
  pub full : IsFull l

abbrev pub IsOverrun : Plan → Going → Type 0
IsOverrun x (On l) = NextIsTooMany x l
IsOverrun x (Full l) = Unit {0}

-- a loop is over, or came to an event whose number is too great
abbrev pub EndsOver : Plan → List LinkCall → Going → Type 0
EndsOver x calls last = Loops x calls last × IsOver x last

abbrev pub EndsLarge : Plan → List LinkCall → Going → Type 0
EndsLarge x calls last = Loops x calls last × IsOverrun x last

-- a call of the link failed at an arrival, after such a loop
pub record CallFails (x : Plan) (calls : List LinkCall) (l : LoopAt) : Type 0 where
  pub before : List LinkCall
  pub cut : List LinkCall
  pub all : calls ≡ before ++ cut
  pub loops : Loops x before (On l)
  pub number : ℕ
  pub way : Way
  pub octets : List ℕ
  pub arrives : FrameArrives x l number way octets
  pub fails : AreCutCalls (sending_end way) (receiving_end way) octets cut

-- a call of the link failed: either its start, and nothing was written, or a call at an arrival, and nothing of
-- that arrival is written
abbrev pub LinkFailed : Plan → List LinkCall → List ℕ → Type 0
LinkFailed x calls text =
    ((calls ≡ []) × (text ≡ []))
    ⊎ ((l : LoopAt) × CallFails x calls l × (text ≡ loop_text x.setting (events_at l)))

-- a loop came so far, and this is the text of its events
pub record Stands (x : Plan) (calls : List LinkCall) (text : List ℕ) : Type 0 where
  pub last : Going
  pub loops : Loops x calls last
  pub is : text ≡ loop_text x.setting (events_at (place last))
