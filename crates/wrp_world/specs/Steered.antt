-- How the clock of a node is steered (this project's profile).
use Rattle.std.specs.Prelude.{ℕ, if◌then◌else◌, Option, None, Some}
use Rattle.wrp_node.specs.NodeAt.{dac_of}
use Rattle.wrp_course.specs.Premises.{rate_of}
use Rattle.wrp_course.specs.Setting.{Setting, node_setting_of}
use Rattle.wrp_course.specs.WorldAt.{WorldAt}
use Rattle.wrp_world.specs.declared.steer.Steer.{Steer}

-- the node's DAC value, and the rate within which its clock keeps, if it has one to keep
abbrev pub steering_in : Setting → WorldAt → ℕ → Steer
steering_in s w n = record { dac = dac_of (node_setting_of s n) (w.node n); kept = rate_of s w n }

-- the same if the node is up; None if it is down
abbrev pub steering_of : Setting → WorldAt → ℕ → Option Steer
steering_of s w n = if (w.clock n).up then Some (steering_in s w n) else None
