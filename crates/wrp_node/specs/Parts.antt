-- A node but its servo, on its way through an input: what each of its calls makes of it.
use Rattle.std.specs.Prelude.{◌≡◌, ℕ, ◌<◌, ◌^◌, ◌==◌, Bool, true, if◌then◌else◌, List, ◌∷◌, map, Option, None, Some, IfSome}
use Rattle.std.specs.List.{AllByRecursion, list_any}
use Rattle.std.specs.Option.{option_or}
use Rattle.wrp_base.specs.declared.link.Deltas.{Deltas}
use Rattle.wrp_base.specs.declared.measurement.Four.{Four}
use Rattle.wrp_base.specs.declared.message.PtpMsg.{PtpMsg}
use Rattle.wrp_base.specs.declared.time.Raw.{Raw}
use Rattle.wrp_base.specs.Message.{IsSound}
use Rattle.wrp_data.specs.declared.reason.Reason.{Reason}
use Rattle.wrp_data.specs.Reason.{number_of as reason_number}
use Rattle.wrp_link.specs.Table.{word_of}
use Rattle.wrp_node.specs.declared.parts.Parts.{Parts}
use Rattle.wrp_node.specs.declared.place.PortPlace.{PortPlace}
use Rattle.wrp_node.specs.declared.ports.To.{To}
use Rattle.wrp_node.specs.NodeAt.{NodeSetting, NodeAt, numbers_of, slave_of, setting_of, line_at, link_at, pieces_at, is_fresh_in, deltas_in}
use Rattle.wrp_node.specs.NodeStep.{counted_tick, message_of, dropped, used, measured_at}
use Rattle.wrp_node.specs.Place.{is_to, newest_sends}
use Rattle.wrp_node.specs.Telling.{Step, step_from, counted, counted_at, told_all, told_by, counted_by, heard_of, answer_of, number_of, tell, newest_step}
use Rattle.wrp_port.specs.declared.interface.PortIn.{PortIn}
use Rattle.wrp_port.specs.declared.interface.PortIn.TheVariants.{Reset as PortReset}
use Rattle.wrp_port.specs.Hearing.{early_reason}
use Rattle.wrp_port.specs.Outputs.{sends_of, drop_of}
use Rattle.wrp_port.specs.PortAt.{StandsFor as PortStandsFor}
use Rattle.wrp_servo.specs.Call.{Call}
use Rattle.wrp_servo.specs.declared.interface.ServoOut.{ServoOut}

-- whether one of these ports has this number
abbrev pub is_among : ℕ → List PortPlace → Bool
is_among p places = list_any (λ q. q == p) (map (λ place. place.number) places)

-- a port stands for what it was given
pub record PlaceStands (fixed : NodeSetting) (n : NodeAt) (place : PortPlace) : Type 0 where
  pub set : place.port.set ≡ setting_of fixed.set place.number
  pub told : PortStandsFor place.port (n.told place.number)
  pub counters : place.counters ≡ n.counters place.number

-- and what it is about to put out
pub record PlaceIn (fixed : NodeSetting) (before : NodeAt) (s : Step) (place : PortPlace) : Type 0 where
  pub stands : PlaceStands fixed s.node place
  pub word : place.word ≡ word_of (link_at fixed.set before place.number)
  pub sends : place.sends.items ≡ s.sends place.number
  pub sound : AllByRecursion IsSound place.sends.items

-- a node without its servo, between inputs
pub record PartsAt (fixed : NodeSetting) (n : NodeAt) (parts : Parts) : Type 0 where
  pub numbers : map (λ place. place.number) parts.ports ≡ numbers_of fixed.set
  pub places : AllByRecursion (PlaceStands fixed n) parts.ports
  pub slave : parts.slave ≡ slave_of fixed.set
  pub clock : parts.clock ≡ fixed.set.servo.clock
  pub ticks : parts.ticks ≡ n.ticks
  -- the slave port is one of them
  pub has_slave : IfSome parts.slave (λ p. is_among p parts.ports ≡ true)

-- and on its way through an input
pub record PartsIn (fixed : NodeSetting) (before : NodeAt) (s : Step) (parts : Parts) : Type 0 where
  pub numbers : map (λ place. place.number) parts.ports ≡ numbers_of fixed.set
  pub places : AllByRecursion (PlaceIn fixed before s) parts.ports
  pub slave : parts.slave ≡ slave_of fixed.set
  pub clock : parts.clock ≡ fixed.set.servo.clock
  pub ticks : parts.ticks ≡ s.node.ticks
  pub has_slave : IfSome parts.slave (λ p. is_among p parts.ports ≡ true)
  pub cycles : parts.cycles ≡ s.cycles
  pub dac : parts.dac ≡ s.dac

-- a call leads from one moment of an input to a later one
abbrev pub Leads : (NodeSetting → Step → Step) → Parts → Parts → Type 0
Leads moved old new = (fixed : NodeSetting) (before : NodeAt) (s : Step) → PartsIn fixed before s old → PartsIn fixed before (moved fixed s) new

-- an input begins: nothing is commanded, and nothing sent yet
abbrev pub Begun : Parts → Parts → Type 0
Begun old new = (fixed : NodeSetting) (n : NodeAt) → PartsAt fixed n old → PartsIn fixed n (step_from n) new

-- some ports were given an input
abbrev pub given : To → PortIn → NodeSetting → Step → Step
given to input fixed s = record s {
  node = record s.node {
    told = λ q. if is_to to q then input ∷ s.node.told q else s.node.told q;
    counters = λ q.
        if is_to to q then counted (drop_of (setting_of fixed.set q) (line_at fixed.set s.node q) (pieces_at fixed.set s.node q) input) (s.node.counters q)
        else s.node.counters q;
  };
  sends = λ q.
      if is_to to q then newest_sends (sends_of (setting_of fixed.set q) (line_at fixed.set s.node q) input) (s.sends q) else s.sends q;
}

-- one port was given something of the servo's chain; it counts and sends nothing for it
abbrev pub told_only : ℕ → (List PortIn → List PortIn) → NodeSetting → Step → Step
told_only p more fixed s = record s { node = record s.node { told = λ q. if q == p then more (s.node.told q) else s.node.told q } }

-- a reason was counted at one port, if there is one
abbrev pub reason_counted : ℕ → Option ℕ → NodeSetting → Step → Step
reason_counted p reason fixed s = record s { node = record s.node { counters = counted_at s.node.counters p reason } }

-- an answer of the servo was taken over: its step of the clock, in periods, if it is not 0, and its DAC value, if it
-- has one
abbrev pub commanded : ServoOut → NodeSetting → Step → Step
commanded out fixed s = record s { cycles = newest_step out.cycles s.cycles; dac = option_or out.dac s.dac }

-- the number given with a sample is the one that the call has
abbrev pub IsNumber : ServoOut → ℕ → Option Call → Type 0
IsNumber out number call = (told : List PortIn) → heard_of out number told ≡ heard_of out (number_of call) told

-- what the servo answered to a call went to the slave port and to the counters
abbrev pub AnswerTaken : ServoOut → ℕ → Parts → Parts → Type 0
AnswerTaken out number old new =
    (fixed : NodeSetting) (before : NodeAt) (s : Step) (call : Option Call) → PartsIn fixed before s old →
    out ≡ answer_of fixed call s.node.calls → IsNumber out number call → PartsIn fixed before (tell fixed call s) new

-- the same, as far as the slave port is given it
abbrev pub slave_told : ServoOut → ℕ → NodeSetting → Step → Step
slave_told out number fixed s = record s {
  node = record s.node {
    told = told_by (slave_of fixed.set) out number s.node.told;
    counters = counted_by (slave_of fixed.set) out s.node.counters;
  };
}

-- a tick is counted, and the lease has its turn
abbrev pub tick_counted : NodeSetting → Step → Step
tick_counted fixed s = record s { node = counted_tick fixed s.node }

-- a reset of all but the servo
abbrev pub parts_reset : NodeSetting → Step → Step
parts_reset fixed s = record s { node = record s.node { ticks = 0; told = told_all s.node.told PortReset } }

-- whether the lease is fresh
abbrev pub TellsLease : Parts → Bool → Type 0
TellsLease parts fresh = (fixed : NodeSetting) (before : NodeAt) (s : Step) → PartsIn fixed before s parts → fresh ≡ is_fresh_in fixed.set s.node

-- the four delays of the link
abbrev pub TellsDeltas : Parts → Option Deltas → Type 0
TellsDeltas parts on = (fixed : NodeSetting) (before : NodeAt) (s : Step) → PartsIn fixed before s parts → on ≡ deltas_in fixed.set s.node

-- a message that reaches a port: it is dropped, or taken there
abbrev pub taken_unless : Option Reason → NodeSetting → ℕ → PortIn → NodeAt → Step
taken_unless None fixed p input n = used fixed p input n
taken_unless (Some reason) fixed p input n = dropped p (reason_number reason) n

-- the four stamps of the measurement that a message makes, if any: a message that is dropped makes none
abbrev pub four_unless : Option Reason → NodeSetting → ℕ → PortIn → NodeAt → Option Four
four_unless None fixed p input n = measured_at fixed n p input
four_unless (Some reason) fixed p input n = None

-- the reason for which a port drops a message whatever its kind, if one applies
abbrev pub reason_at : NodeSetting → NodeAt → ℕ → PtpMsg → Option Reason
reason_at fixed n p message = early_reason (setting_of fixed.set p) (link_at fixed.set n p) message

-- a message came to a port: it is dropped, or taken there and may make a measurement
pub record HearsAt (fixed : NodeSetting) (n : NodeAt) (p : ℕ) (message : PtpMsg) (raw : Raw) (sample : ℕ) (new : Parts) (four : Option Four) : Type 0 where
  pub parts : PartsIn fixed n (taken_unless (reason_at fixed n p message) fixed p (message_of fixed n p message raw sample) n) new
  pub four_is : four ≡ four_unless (reason_at fixed n p message) fixed p (message_of fixed n p message raw sample) n

-- a call handed a message to one of the ports, as the first that an input made of the node
abbrev pub Hears : ℕ → PtpMsg → Raw → ℕ → Parts → Parts → Option Four → Type 0
Hears p message raw sample old new four =
    (fixed : NodeSetting) (n : NodeAt) → PartsIn fixed n (step_from n) old → is_among p old.ports ≡ true → HearsAt fixed n p message raw sample new four

-- a raw stamp whose numbers are in their ranges
pub record FitsRaw (raw : Raw) : Type 0 where
  pub rising_least : 0 < raw.rising
  pub rising_most : raw.rising < 2 ^ 63
  pub falling_least : 0 < raw.falling
  pub falling_most : raw.falling < 2 ^ 63
  pub tag : raw.tag < 16384
