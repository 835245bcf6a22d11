-- The servo of a node, if it has one, and the lease and the link that it was last given.
use Rattle.std.specs.Prelude.{◌≡◌, ℕ, ℤ, ◌+◌, ◌<◌, ◌^◌, Bool, true, false, if◌then◌else◌, List, ◌∷◌, Option, None, Some, is_some, IfSome}
use Rattle.std.specs.Option.{option_map}
use Rattle.wrp_base.specs.declared.link.Deltas.{Deltas}
use Rattle.wrp_base.specs.declared.link.ServoState.{ServoState}
use Rattle.wrp_base.specs.declared.link.ServoState.TheVariants.{Uninit}
use Rattle.wrp_law.specs.Law.{KeepsFact, LawOf}
use Rattle.wrp_node.specs.NodeAt.{NodeSetting, slave_of, servo_setting_of}
use Rattle.wrp_node.specs.Telling.{answer_of, called, for_slave, is_changed}
use Rattle.wrp_servo.specs.Call.{Call, CallLease, CallLink, CallCarrier}
use Rattle.wrp_servo.specs.declared.interface.ServoOut.{ServoOut}
use Rattle.wrp_servo.specs.Servo.{ServoOf, StandsFor as ServoStandsFor, est_now}
use Rattle.wrp_servo.specs.Table.{is_track}
use Rattle.wrp_servo.specs.Told.{lease_told, link_told}

-- a servo, and whether the lease that it was last given is fresh and the link that it was last given is on
pub record ToldServo (F : Type 0) : Type 0 where
  pub servo : ServoOf F
  pub lease : Bool
  pub link : Bool

-- what the servo's part of a node is seen as
pub record ControlOf (F : Type 0) : Type 0 where
  pub told : Option (ToldServo F)
  pub bias : ℕ

-- the servo stands for these calls, and knows the last lease and the last link in them
pub record ToldStands {F : Type 0} (post : F → ℤ → ℤ → Type 0) (fixed : NodeSetting) (calls : List Call) (t : ToldServo F) : Type 0 where
  pub servo : ServoStandsFor post (servo_setting_of fixed) t.servo calls
  pub lease : t.lease ≡ lease_told calls
  pub link : t.link ≡ is_some (link_told calls)

-- there is a servo if and only if there is a slave port
abbrev pub ServoIs : {F : Type 0} → (F → ℤ → ℤ → Type 0) → NodeSetting → List Call → Option (ToldServo F) → Type 0
ServoIs post fixed calls None = is_some (slave_of fixed.set) ≡ false
ServoIs post fixed calls (Some t) = (is_some (slave_of fixed.set) ≡ true) × ToldStands post fixed calls t

-- the servo's part stands for these calls
pub record ControlStands {F : Type 0} (post : F → ℤ → ℤ → Type 0) (fixed : NodeSetting) (calls : List Call) (c : ControlOf F) : Type 0 where
  pub servo : ServoIs post fixed calls c.told
  pub bias : c.bias ≡ fixed.set.servo.bias

-- a call was made, if there is a servo and something to give it: it answers so
pub record Calls {F : Type 0} (post : F → ℤ → ℤ → Type 0) (fixed : NodeSetting) (calls : List Call) (new : ControlOf F) (call : Option Call) (out : ServoOut) : Type 0 where
  pub stands : ControlStands post fixed (called (for_slave fixed call) calls) new
  pub answer : out ≡ answer_of fixed (for_slave fixed call) calls

-- so it is for each list of calls that it stood for; the new call may depend on the earlier ones
abbrev pub AddsCalls : {F : Type 0} → (F → ℤ → ℤ → Type 0) → ControlOf F → ControlOf F → (List Call → Option Call) → ServoOut → Type 0
AddsCalls post old new call out =
    (fixed : NodeSetting) (calls : List Call) → ControlStands post fixed calls old → Calls post fixed calls new (call calls) out

-- one call to a servo that is there
abbrev pub AddsTold : {F : Type 0} → (F → ℤ → ℤ → Type 0) → ToldServo F → ToldServo F → Call → ServoOut → Type 0
AddsTold post old new call out =
    (fixed : NodeSetting) (calls : List Call) → ToldStands post fixed calls old →
    ToldStands post fixed (call ∷ calls) new × (out ≡ answer_of fixed (Some call) calls)

-- the calls that give the servo a lease, a link, and a carrier
abbrev pub lease_call : Bool → List Call → Option Call
lease_call fresh calls = if is_changed (lease_told calls) fresh then Some (CallLease fresh) else None

-- the call that gives the servo the link: on, with its four delays in tau, or off. It is made only if this differs
-- from what the servo was last given
abbrev pub link_call : Option Deltas → List Call → Option Call
link_call on calls = if is_changed (is_some (link_told calls)) (is_some on) then Some (CallLink on) else None

-- there is nothing to give: there is no servo, or it was last given the same
abbrev pub HasNothing : {F : Type 0} → (F → ℤ → ℤ → Type 0) → ControlOf F → (List Call → Option Call) → Type 0
HasNothing post c call = (fixed : NodeSetting) (calls : List Call) → ControlStands post fixed calls c → for_slave fixed (call calls) ≡ None

-- the call that gives the servo a carrier that came or went: only if its port is the slave port
abbrev pub carrier_call : Bool → Bool → Option Call
carrier_call slave up = if slave then Some (CallCarrier up) else None

-- the law that the servo asks, if there is a servo
abbrev pub law_in : {F : Type 0} → ControlOf F → Option (LawOf F)
law_in c = option_map (λ t. t.servo.law) c.told

-- the law of the servo keeps its fact
abbrev pub KeepsLaw : {F : Type 0} → (F → ℤ → Type 0) → (F → ℤ → ℤ → Type 0) → ControlOf F → Type 0
KeepsLaw pre post c = IfSome c.told (λ t. KeepsFact pre post t.servo.law)

-- one tick more can be counted
abbrev pub HasTick : {F : Type 0} → ControlOf F → Type 0
HasTick c = IfSome c.told (λ t. t.servo.core.ticks + 1 < 2 ^ 32)

-- ---- what a servo's part reports of itself

-- the state of the servo; UNINIT if the node has none
abbrev pub state_in : {F : Type 0} → Option (ToldServo F) → ServoState
state_in None = Uninit
state_in (Some t) = t.servo.core.state

-- whether the lock detector of the servo is locked; false if the node has no servo
abbrev pub locked_in : {F : Type 0} → Option (ToldServo F) → Bool
locked_in None = false
locked_in (Some t) = t.servo.core.phase.lock.locked

-- whether the node's time is certain: it has no servo, or its servo is in TRACK
abbrev pub certain_in : {F : Type 0} → Option (ToldServo F) → Bool
certain_in None = true
certain_in (Some t) = is_track t.servo.core.state

-- the DAC value that the loop of the servo holds; the bias if the node has no servo
abbrev pub dac_in : {F : Type 0} → ℕ → Option (ToldServo F) → ℕ
dac_in bias None = bias
dac_in bias (Some t) = t.servo.core.phase.dac

-- the offset from the parent, in TRACK alone
abbrev pub tracked_in : {F : Type 0} → Option (ToldServo F) → Option ℤ
tracked_in None = None
tracked_in (Some t) = if is_track t.servo.core.state then est_now t.servo.core else None
