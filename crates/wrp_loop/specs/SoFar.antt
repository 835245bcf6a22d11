-- How far a loop has come, round by round, as its caller sees it: the calls that the link showed since its start,
-- and the text of the events; and how it ends (this project's profile).
use Rattle.std.specs.Prelude.{◌≡◌, ◌⊎◌, ◌≤◌, ◌<◌, ◌+◌, ◌*◌, ◌-◌, ◌^◌, ℕ, ℤ, Bool, true, false, Option, None, List, [], ◌++◌, length, Result, Ok, Err}
use Rattle.std.specs.List.{AllByRecursion}
use Rattle.wrp_io.specs.declared.link.LinkCall.{LinkCall}
use Rattle.wrp_course.specs.declared.event.Event.{Event}
use Rattle.wrp_course.specs.declared.event.Event.TheVariants.{Deliver}
use Rattle.wrp_course.specs.WorldAt.{new_world}
use Rattle.wrp_scene.specs.Scenario.{IsSceneOf}
use Rattle.wrp_sim.specs.Sim.{SimIs}
use Rattle.wrp_sim.specs.SimAt.{new_sim}
use Rattle.wrp_sim.specs.SimRun.{Gives}
use Rattle.wrp_world.specs.StandsFor.{StandsFor}
use Rattle.wrp_loop.specs.declared.network.LoopCourse.{LoopCourse}
use Rattle.wrp_loop.specs.declared.network.LoopedNetwork.{LoopedNetwork}
use Rattle.wrp_loop.specs.declared.outcome.LoopFault.{LoopFault}
use Rattle.wrp_loop.specs.declared.outcome.LoopFault.TheVariants as faults
use Rattle.wrp_loop.specs.declared.outcome.Rounded.{Rounded}
use Rattle.wrp_loop.specs.declared.outcome.Rounded.TheVariants as rounded
use Rattle.wrp_loop.specs.declared.rounds.Coming.{Coming}
use Rattle.wrp_loop.specs.declared.rounds.Coming.TheVariants as comings
use Rattle.wrp_loop.specs.Calls.{Grew, IsFrameCall}
use Rattle.wrp_loop.specs.LoopEnds.{EndsLarge, EndsOver, LinkFailed, NextIsTooMany}
use Rattle.wrp_loop.specs.LoopRun.{Going, On, IsPlain, LoopAt, Loops, Plan, events_at, place, world_at}
use Rattle.wrp_loop.specs.LoopStands.{ArrivalCalls, ArrivalFails, CanLoop, FitsCourse, IsArrivalOf, IsInLoop, RoundCame, StandsAt}
use Rattle.wrp_loop.specs.LoopText.{loop_text}

-- The code's parts

-- before the first event of a plan
pub record Begins {F : Type 0} (post : F → ℤ → ℤ → Type 0) (x : Plan) (network : LoopedNetwork F) (course : LoopCourse)
    : Type 0 where
  pub stands : StandsFor post x.setting (new_world x.setting) network.world
  pub fits : IsSceneOf x.setting.cfg x.scene
  pub sim : SimIs (new_sim x.scene x.seed) course.sim
  pub scene : course.sim.scene ≡ x.scene
  pub events : course.events ≡ 0
  pub forged : course.forged ≡ 0
  pub came : course.index.came.items ≡ []
  pub handed : course.index.handed.items ≡ []

-- a round can come: the world was made by calls of the world, the course belongs to its network, no event was
-- followed by more than sixteen forged datagrams, and some loop came to here
pub record IsReady {F : Type 0} (pre : F → ℤ → Type 0) (post : F → ℤ → ℤ → Type 0) (network : LoopedNetwork F)
    (course : LoopCourse) : Type 0 where
  pub valid : CanLoop pre post network
  pub fits : FitsCourse network course
  pub few : course.forged ≤ 16 * course.events
  pub loop : IsInLoop post network course

-- the most rounds that can still come: each has an event that is counted, or hands a frame over, which the
-- simulator does at most twice after an event
abbrev pub rounds_left : LoopCourse → ℕ
rounds_left course = 3 * (2 ^ 32 - course.events) + course.sim.arrived.times

-- What a caller has

-- a loop came so far: the link showed these calls since its start, and this is the text of its
-- events
pub record CameSoFar {F : Type 0} (post : F → ℤ → ℤ → Type 0) (x : Plan) (network : LoopedNetwork F) (course : LoopCourse)
    (before told : Option (List LinkCall)) (text : List ℕ) : Type 0 where
  pub at : LoopAt
  pub stands : StandsAt post x network course at
  pub calls : List LinkCall
  pub adds : Grew before told calls
  pub frames : AllByRecursion IsFrameCall calls
  pub loops : Loops x calls (On at)
  pub is : text ≡ loop_text x.setting (events_at at)

-- a loop ended in this way, and this is the text of its events; the world and the counts are those after the last
-- event
pub record EndedSo {F : Type 0} (post : F → ℤ → ℤ → Type 0) (Ends : Plan → List LinkCall → Going → Type 0) (x : Plan)
    (network : LoopedNetwork F) (course : LoopCourse) (before told : Option (List LinkCall)) (text : List ℕ) : Type 0 where
  pub last : Going
  pub calls : List LinkCall
  pub adds : Grew before told calls
  pub frames : AllByRecursion IsFrameCall calls
  pub ends : Ends x calls last
  pub is : text ≡ loop_text x.setting (events_at (place last))
  pub stands : StandsFor post x.setting (world_at x (place last)) network.world
  pub count : course.events ≡ length (events_at (place last))
  pub forged : course.forged ≡ (place last).forged

-- a call of the link failed, and this is the text of the events before it
pub record FailedSo (x : Plan) (before told : Option (List LinkCall)) (text : List ℕ) : Type 0 where
  pub calls : List LinkCall
  pub adds : Grew before told calls
  pub frames : AllByRecursion IsFrameCall calls
  pub failed : LinkFailed x calls text

-- a loop came so far, and then memory ran out in a round: before its calls, or after them
pub record ComesShort (x : Plan) (calls : List LinkCall) (l : LoopAt) : Type 0 where
  pub before : List LinkCall
  pub made : List LinkCall
  pub all : calls ≡ before ++ made
  pub loops : Loops x before (On l)
  pub which : (made ≡ []) ⊎ ArrivalCalls x l made

-- memory ran out: at the start, or after a loop whose events have this text
abbrev pub StoppedShort : Plan → List LinkCall → List ℕ → Type 0
StoppedShort x calls text =
    ((calls ≡ []) × (text ≡ []))
    ⊎ ((l : LoopAt) × ComesShort x calls l × (text ≡ loop_text x.setting (events_at l)))

pub record StoppedSo (x : Plan) (before told : Option (List LinkCall)) (text : List ℕ) : Type 0 where
  pub calls : List LinkCall
  pub adds : Grew before told calls
  pub frames : AllByRecursion IsFrameCall calls
  pub stopped : StoppedShort x calls text

-- Calls

-- what became of a start
abbrev pub Starts : {F : Type 0} → (F → ℤ → ℤ → Type 0) → Plan → LoopedNetwork F → LoopCourse
    → (before told : Option (List LinkCall)) → Result (Unit {0}) LoopFault → Type 0
Starts post x network course before told (Ok done) = CameSoFar post x network course before told []
Starts post x network course before told (Err faults.Failed) = FailedSo x before told []
Starts post x network course before told (Err faults.Memory) = StoppedSo x before told []

-- what became of a round, after a loop whose text so far is what was written and then what waits: the loop goes on
-- or ended with the lines that wait now, or it goes no further and its text is as it was; if memory ran out, what
-- waits now is of no use
abbrev pub Leads : {F : Type 0} → (F → ℤ → ℤ → Type 0) → Plan → LoopedNetwork F → LoopCourse
    → (before told : Option (List LinkCall)) → (written waits now : List ℕ) → Result Rounded LoopFault → Type 0
Leads post x network course before told written waits now (Ok rounded.GoesOn) =
    CameSoFar post x network course before told (written ++ now)
Leads post x network course before told written waits now (Ok rounded.Over) =
    (now ≡ waits) × EndedSo post EndsOver x network course before told (written ++ now)
Leads post x network course before told written waits now (Ok rounded.TooLarge) =
    EndedSo post EndsLarge x network course before told (written ++ now)
Leads post x network course before told written waits now (Err faults.Failed) =
    (now ≡ waits) × FailedSo x before told (written ++ waits)
Leads post x network course before told written waits now (Err faults.Memory) =
    StoppedSo x before told (written ++ waits)

-- One round

-- the network and the text stay as they are, and no call is made
pub record RoundStays {F : Type 0} (post : F → ℤ → ℤ → Type 0) (x : Plan) (network : LoopedNetwork F) (course : LoopCourse)
    (l : LoopAt) (before told : Option (List LinkCall)) (old new : List ℕ) : Type 0 where
  pub stands : StandsFor post x.setting (world_at x l) network.world
  pub count : course.events ≡ length (events_at l)
  pub forged : course.forged ≡ l.forged
  pub calls : told ≡ before
  pub text : new ≡ old

-- memory ran out in a round, before its calls or after them
pub record RoundLacks (x : Plan) (l : LoopAt) (before told : Option (List LinkCall)) : Type 0 where
  pub calls : List LinkCall
  pub adds : Grew before told calls
  pub frames : AllByRecursion IsFrameCall calls
  pub which : (calls ≡ []) ⊎ ArrivalCalls x l calls

-- what became of an arrival
abbrev pub Arrivals : {F : Type 0} → (F → ℤ → ℤ → Type 0) → Plan → LoopedNetwork F → LoopCourse → LoopAt
    → (before told : Option (List LinkCall)) → (old new : List ℕ) → Result Bool LoopFault → Type 0
Arrivals post x network course l before told old new (Ok goes) =
    RoundCame post x network course l goes before told old new
Arrivals post x network course l before told old new (Err faults.Failed) = (new ≡ old) × ArrivalFails x l before told
Arrivals post x network course l before told old new (Err faults.Memory) = RoundLacks x l before told

-- what became of a round, after a loop that came to here
abbrev pub Rounds : {F : Type 0} → (F → ℤ → ℤ → Type 0) → Plan → LoopedNetwork F → LoopCourse → LoopAt
    → (before told : Option (List LinkCall)) → (old new : List ℕ) → Result Rounded LoopFault → Type 0
Rounds post x network course l before told old new (Ok rounded.GoesOn) =
    RoundCame post x network course l true before told old new
Rounds post x network course l before told old new (Ok rounded.Over) =
    RoundStays post x network course l before told old new × Gives x.scene x.setting (world_at x l) l.at None
Rounds post x network course l before told old new (Ok rounded.TooLarge) =
    (RoundStays post x network course l before told old new × NextIsTooMany x l)
    ⊎ RoundCame post x network course l false before told old new
Rounds post x network course l before told old new (Err faults.Failed) = (new ≡ old) × ArrivalFails x l before told
Rounds post x network course l before told old new (Err faults.Memory) = RoundLacks x l before told

-- what the next event of the simulator is
abbrev pub IsComing : Event → Coming → Type 0
IsComing e (comings.Arrival i) = IsArrivalOf i e
IsComing e comings.Handing = (i : ℕ) × (e ≡ Deliver i)
IsComing e comings.Plain = IsPlain e

-- it is counted, unless it hands a frame over
abbrev pub MovesOn : Event → (before now : ℕ) → Type 0
MovesOn (Deliver i) before now = now ≡ before
MovesOn _ before now = before < now
