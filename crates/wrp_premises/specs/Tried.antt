-- What the code checks before an event: the delays that a link would have, the end that receives a
-- frame, and the port whose message the octets spell (this project's profile).
use Rattle.std.specs.Prelude.{◌≡◌, ◌-ℤ◌, ℕ, ℤ, pos, Bool, false, List, [], ◌∷◌, Option, None, Some, Result, Ok, Err, if◌then◌else◌}
use Rattle.std.specs.Option.{option_map_or}
use Rattle.wrp_network.specs.declared.configuration.NetCfg.{NetCfg}
use Rattle.wrp_base.specs.declared.link.Role.{Role}
use Rattle.wrp_base.specs.declared.link.Role.TheVariants.{Master, Slave}
use Rattle.wrp_base.specs.declared.link.ServoState.{ServoState}
use Rattle.wrp_base.specs.declared.message.PortIdentity.{PortIdentity}
use Rattle.wrp_base.specs.declared.message.PtpMsg.{PtpMsg}
use Rattle.wrp_network.specs.declared.network.LinkCfg.{LinkCfg}
use Rattle.wrp_network.specs.declared.network.NodeCfg.{NodeCfg}
use Rattle.wrp_base.specs.declared.time.Raw.{Raw}
use Rattle.wrp_base.specs.Message.{is_port}
use Rattle.wrp_bounds.specs.Times.{frame_life}
use Rattle.wrp_servo.specs.Sampling.{is_holdover}
use Rattle.wrp_frame.specs.declared.fault.FrameFault.{FrameFault}
use Rattle.wrp_frame.specs.Saying.{Says}
use Rattle.wrp_node.specs.Set.{lower_of, set_of, upper_of}
use Rattle.wrp_course.specs.Checks.{Check, at_most, size_of, needs, told_of}
use Rattle.wrp_course.specs.declared.breach.Breach.{Breach}
use Rattle.wrp_plant.specs.declared.ends.Delays.{Delays}
use Rattle.wrp_course.specs.declared.event.Swap.{Swap}
use Rattle.wrp_course.specs.declared.fibres.FibreState.{FibreState}
use Rattle.wrp_course.specs.declared.place.Place.{Place}
use Rattle.wrp_plant.specs.declared.plant.Plant.{Plant}
use Rattle.wrp_plant.specs.Plant.{PlantIs}
use Rattle.wrp_course.specs.Premises.{noise_checks, received_at}
use Rattle.wrp_course.specs.Setting.{Setting, end_at, entry_at, of_node, place_of}
use Rattle.wrp_course.specs.WorldAt.{EndAt, WorldAt, has_carrier, reading}

-- Delays

-- the delays after a module was installed, if one was
abbrev pub with_module : Option Swap → Delays → Delays
with_module None delays = delays
with_module (Some swap) delays = record { tx = swap.tx; rx = swap.rx }

-- the same, if the end belongs to the node that comes up
abbrev pub delays_after : Bool → Option Swap → Delays → Delays
delays_after is_its swap delays = if is_its then with_module swap delays else delays

pub record EndHas (at : EndAt) (delays : Delays) : Type 0 where
  pub tx : delays.tx ≡ at.tx
  pub rx : delays.rx ≡ at.rx

-- a link has this fibre in this state, and these delays at its ends
pub record LinkHas (v : WorldAt) (k : ℕ) (over : FibreState) (upper lower : Delays) : Type 0 where
  pub fibre : over ≡ v.fibre k
  pub master : EndHas (v.end_at k Master) upper
  pub slave : EndHas (v.end_at k Slave) lower

-- Ends

-- the checks of a frame, put out at the time `sent`, that departs over a link
abbrev pub departs_by : Setting → WorldAt → (n k : ℕ) → (stamp sent : ℤ) → List Check
departs_by s w n k stamp sent =
    at_most 7 (size_of (stamp -ℤ reading w n)) (pos (of_node (λ node. node.e_tx) s n))
    ∷ (at_most 10 (w.time -ℤ sent) (pos (frame_life s.cfg)) ∷ (needs (has_carrier s w k) ∷ []))

-- the checks at the end that receives a frame
abbrev pub received_to : Setting → WorldAt → Place → Raw → List Check
received_to s w to raw =
    option_map_or
    (λ end. received_at s w (entry_at s to.link to.role (w.end_at to.link to.role).name) raw end.node)
    (end_at s to.link to.role) []

-- Octets

-- the portIdentity of an end of a link
abbrev pub identity_at : NetCfg → Role → LinkCfg → PortIdentity
identity_at cfg Master link = upper_of cfg link
identity_at cfg Slave link = lower_of cfg link

-- the octets spell a message of this port
abbrev pub is_by : PortIdentity → Result PtpMsg FrameFault → Bool
is_by peer (Err fault) = false
is_by peer (Ok message) = is_port message.head.source peer

abbrev pub forged_by : Bool → Check
forged_by by_peer = record { premise = 12; fails = by_peer; shown = pos 1; bound = pos 0 }

-- the breach of octets that are handed to a port is the one that the premises have, in each state
-- whose node has the settings of the network
abbrev pub TellsNoise : Plant → (n p : ℕ) → List ℕ → Option Breach → Type 0
TellsNoise plant n p octets breach =
    (says : Result PtpMsg FrameFault) × Says octets says
    × ((s : Setting) (w : WorldAt) → PlantIs s w plant → s.set n ≡ set_of s.cfg n
    → breach ≡ told_of (noise_checks s w n p says (place_of s n p)))

-- Rates

-- the rate that a node's clock keeps, if it keeps one: it is locked, or in HOLDOVER
abbrev pub steered_rate : Bool → ServoState → NodeCfg → Option ℕ
steered_rate locked state node =
    if locked then Some node.slew else (if is_holdover state then Some node.held else None)

-- the grandmaster's clock does not drift, and the clock of a node that is down has no rate to keep
abbrev pub kept_rate : (is_top up : Bool) → Option ℕ → Option ℕ
kept_rate is_top up steered = if is_top then Some 0 else (if up then steered else None)
