-- The laws need their states: a run, written out, in which a node that is up, and not yet in TRACK or HOLDOVER, has a clock that runs
-- backward (this project's profile).
use Rattle.std.specs.Prelude.{◌≡◌, ◌^◌, ◌<ℤ◌, pos, neg_ℤ, true, List, [], ◌∷◌}
use Rattle.wrp_base.specs.declared.link.ServoState.TheVariants.{Uninit}
use Rattle.wrp_node.specs.NodeAt.{state_of}
use Rattle.wrp_node.specs.Set.{set_of}
use Rattle.wrp_course.specs.declared.event.Event.{Event}
use Rattle.wrp_course.specs.declared.event.Event.TheVariants.{Pass}
use Rattle.wrp_course.specs.Rows.{comes_up, database, network, plain}
use Rattle.wrp_course.specs.Run.{Happened, world_after}
use Rattle.wrp_course.specs.Runs.{IsRun}
use Rattle.wrp_course.specs.Setting.{Setting, node_setting_of}
use Rattle.wrp_course.specs.WorldAt.{reading}

-- the worked network of two nodes, each node set to its part of it
abbrev pub worked : Setting
worked = record { cfg = network; db = database; set = set_of network; lo = λ n. neg_ℤ (pos (2 ^ 30)); hi = λ n. pos (2 ^ 53) }

-- the lower node comes up with true time
abbrev pub earlier : List Happened
earlier = plain (comes_up 1) ∷ []

-- and then 10 tau pass, in which its clock loses 11
abbrev pub loses : Event
loses = Pass (pos 10) (record { items = pos 0 ∷ (neg_ℤ (pos 11) ∷ []) }) (record { items = (pos 0, pos 0) ∷ [] })

abbrev pub later : List Happened
later = plain loses ∷ earlier

-- both events keep all premises; the node is up, in UNINIT, and its local time falls
pub record RunsBackward : Type 0 where
  pub run : IsRun worked later
  pub up : ((world_after worked earlier).clock 1).up ≡ true
  pub there : state_of (node_setting_of worked 1) ((world_after worked earlier).node 1) ≡ Uninit
  pub falls : reading (world_after worked later) 1 <ℤ reading (world_after worked earlier) 1
