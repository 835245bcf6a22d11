-- The events of a loop over a link that loses nothing are the events of a simulation of the same network, scenario and seed (this
-- project's profile).
use Rattle.std.specs.Prelude.{◌≡◌, List, None, Some}
use Rattle.wrp_io.specs.declared.link.LinkCall.{LinkCall}
use Rattle.wrp_course.specs.Runs.{IsNetwork}
use Rattle.wrp_scene.specs.Scenario.{IsSceneOf, SceneAt}
use Rattle.wrp_sim.specs.Rules.{Next}
use Rattle.wrp_sim.specs.SimAt.{SimAt}
use Rattle.wrp_sim.specs.SimRun.{Gives, IsSimRun}
use Rattle.wrp_loop.specs.LoopEnds.{IsOver, IsOverrun}
use Rattle.wrp_loop.specs.LoopRun.{Going, Loops, Plan, events_at, place, world_at}
use Rattle.wrp_lossless_laws.specs.LosesNothing.{LosesNothing}

-- a scenario in which no frame is lost and none comes twice
pub record HandsEachOver (scene : SceneAt) : Type 0 where
  pub loss : scene.loss ≡ 0
  pub repeat : scene.repeat ≡ 0

-- the events of this loop are a simulated run; the simulator gives no event after them if the loop is over, and one more if the number
-- of the loop's next event is too great; and no datagram was forged
pub record IsSimulatedToo (x : Plan) (last : Going) : Type 0 where
  pub at : SimAt
  pub run : IsSimRun x.scene x.setting x.seed (events_at (place last)) at
  pub over : IsOver x last → Gives x.scene x.setting (world_at x (place last)) at None
  pub large : IsOverrun x last → (next : Next) × Gives x.scene x.setting (world_at x (place last)) at (Some next)
  pub unforged : (place last).forged ≡ 0

abbrev pub LosslessLoopIsSimulated : Type 0
LosslessLoopIsSimulated =
    (x : Plan) (calls : List LinkCall) (last : Going) → IsNetwork x.setting → IsSceneOf x.setting.cfg x.scene →
    HandsEachOver x.scene → LosesNothing calls → Loops x calls last → IsSimulatedToo x last
