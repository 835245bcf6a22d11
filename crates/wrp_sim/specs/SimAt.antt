-- What a simulator has drawn and done so far (this project's profile).
use Rattle.std.specs.Prelude.{ℕ, ℤ, pos, List, Option, None}
use Rattle.wrp_scene.specs.declared.scene.fault.Fault.{Fault}
use Rattle.wrp_sim.specs.declared.sim.state.Handed.{Handed}
use Rattle.wrp_scene.specs.Scenario.{SceneAt}

pub record SimAt : Type 0 where
  -- the state of the generator
  pub state : ℕ
  -- how many events of the start have come
  pub begun : ℕ
  -- the faults that are left, in the order of their lines
  pub faults : List Fault
  -- by node: when it ticks next, in true time
  pub tick_at : ℕ → ℤ
  -- the node whose tick came last, if no other event of the simulator came since
  pub ticked : Option ℕ
  -- the frame that arrived last, and how often it is still handed over
  pub arrived : Handed

-- before any event
abbrev pub new_sim : SceneAt → ℕ → SimAt
new_sim scene seed = record {
  state = seed;
  begun = 0;
  faults = scene.faults;
  tick_at = λ n. pos 0;
  ticked = None;
  arrived = record { frame = 0; times = 0 };
}
