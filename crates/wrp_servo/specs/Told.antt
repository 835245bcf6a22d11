-- What was last given, and what was counted since, looking back over the list of calls (this project's profile).
use Rattle.std.specs.Prelude.{◌≡◌, ℕ, Bool, true, false, cond, not, is_some, ◌+◌, ◌≤◌, List, [], ◌∷◌, Option, None}
use Rattle.wrp_base.specs.declared.link.Deltas.{Deltas}
use Rattle.wrp_servo.specs.Call.{Call, CallSample, CallTick, CallLease, CallLink, CallCarrier, CallReset, ServoSetting, after, run}
use Rattle.wrp_servo.specs.declared.machine.Core.{Core}
use Rattle.wrp_servo.specs.Tags.{heard_tag}

-- whether there is a carrier: the last word on it
abbrev pub carrier_told : List Call → Bool
carrier_told [] = false
carrier_told (CallCarrier up ∷ calls) = up
carrier_told (CallReset ∷ calls) = false
carrier_told (_ ∷ calls) = carrier_told calls

-- the deltas of the link, if it is on
abbrev pub link_told : List Call → Option Deltas
link_told [] = None
link_told (CallLink on ∷ calls) = on
link_told (CallReset ∷ calls) = None
link_told (_ ∷ calls) = link_told calls

-- whether the lease is fresh
abbrev pub lease_told : List Call → Bool
lease_told [] = false
lease_told (CallLease fresh ∷ calls) = fresh
lease_told (CallReset ∷ calls) = false
lease_told (_ ∷ calls) = lease_told calls

-- the ticks since the last reset
abbrev pub ticks_told : List Call → ℕ
ticks_told [] = 0
ticks_told (CallTick ∷ calls) = ticks_told calls + 1
ticks_told (CallReset ∷ calls) = 0
ticks_told (_ ∷ calls) = ticks_told calls

-- what a servo knows is what it was last given
pub record IsTold (v : Core) (calls : List Call) : Type 0 where
  pub carrier : v.signals.carrier ≡ carrier_told calls
  pub link : v.signals.link ≡ link_told calls
  pub lease : v.signals.lease ≡ lease_told calls
  pub ticks : v.ticks ≡ ticks_told calls

-- after any list of calls the servo has carrier, link, lease and ticks as looking back over the list finds them
abbrev pub ToldLast : Type 0
ToldLast = (x : ServoSetting) (calls : List Call) → IsTold (run x calls) calls

-- a call counts one tick at the most
abbrev pub CountsOneTick : Type 0
CountsOneTick = (x : ServoSetting) (v : Core) (call : Call) → (after x v call).ticks ≤ v.ticks + 1

-- the ticks since the last good sample, or since the last reset
abbrev pub ticks_since_good : ServoSetting → List Call → ℕ
ticks_since_good x [] = 0
ticks_since_good x (CallTick ∷ calls) = ticks_since_good x calls + 1
ticks_since_good x (CallReset ∷ calls) = 0
ticks_since_good x (CallSample n base bits ∷ calls) =
    cond (is_some (heard_tag x calls n base bits)) 0 (ticks_since_good x calls)
ticks_since_good x (_ ∷ calls) = ticks_since_good x calls

-- a call gives a fresh lease
abbrev pub lease_starts : List Call → Call → Bool
lease_starts before (CallLease fresh) = fresh
lease_starts before _ = false

-- a call gives a lapsed lease, or is a reset
abbrev pub lease_ends : List Call → Call → Bool
lease_ends before (CallLease fresh) = not fresh
lease_ends before CallReset = true
lease_ends before _ = false
