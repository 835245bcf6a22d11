-- Runs of an accepted network, and what a frame's port put out (this project's profile).
use Rattle.std.specs.Prelude.{◌≡◌, ◌⊎◌, ℕ, List, [], ◌∷◌}
use Rattle.wrp_network.specs.declared.configuration.NetCfg.{NetCfg}
use Rattle.wrp_config.specs.Accepted.{IsAccepted}
use Rattle.wrp_node.specs.Set.{set_of}
use Rattle.wrp_course.specs.EventAt.{IsEventOf}
use Rattle.wrp_course.specs.Run.{Happened, AllAccepted}
use Rattle.wrp_course.specs.Setting.{Setting}
use Rattle.wrp_course.specs.WorldAt.{Sending}

-- the network is one that its reader accepts, and each node is set to its part of it
pub record IsNetwork (s : Setting) : Type 0 where
  pub accepted : IsAccepted s.cfg s.db
  pub set : (n : ℕ) → s.set n ≡ set_of s.cfg n

-- each event is one of the network
abbrev pub AllEvents : NetCfg → List Happened → Type 0
AllEvents cfg [] = Unit {0}
AllEvents cfg (h ∷ before) = IsEventOf cfg h.event × AllEvents cfg before

-- events of an accepted network, the newest first, each of which kept all premises when it came
pub record IsRun (s : Setting) (events : List Happened) : Type 0 where
  pub network : IsNetwork s
  pub each : AllEvents s.cfg events
  pub accepted : AllAccepted s events

-- a frame is among those that a port ever put out
abbrev pub WasPutOut : Sending → List Sending → Type 0
WasPutOut x [] = ⊥
WasPutOut x (other ∷ others) = (x ≡ other) ⊎ WasPutOut x others
