-- What each call does, by rows: carrier, link, lease, tick and reset, and how a chain ends.
use Rattle.std.specs.Prelude.{ℕ, ◌+◌, ◌-◌, Bool, true, false, cond, ◌&&◌, nat_le, nat_lt, is_some, Option, None, Some}
use Rattle.wrp_base.specs.declared.link.Deltas.{Deltas}
use Rattle.wrp_base.specs.declared.link.ServoState.{ServoState}
use Rattle.wrp_base.specs.declared.link.ServoState.TheVariants.{Uninit, SyncTai, SyncNsec, SyncPhase, WaitStable, Track, Holdover}
use Rattle.wrp_servo.specs.declared.interface.ServoSet.{ServoSet}
use Rattle.wrp_servo.specs.declared.machine.Measurement.{Measurement}
use Rattle.wrp_servo.specs.declared.machine.Core.{Core}
use Rattle.wrp_servo.specs.Following.{new_loop, restarted, unlocked}

-- a servo before its first call
abbrev pub new_core : ServoSet → Core
new_core set = record {
  set = set;
  state = Uninit;
  signals = record { carrier = false; link = None; lease = false };
  first = None;
  kept = None;
  last = 0;
  calm = 0;
  ticks = 0;
  good_tick = 0;
  left_tick = 0;
  phase = new_loop set;
}

-- the end of a chain, by the state in which it comes
abbrev pub ended_in : Core → ServoState → Core
ended_in v Track = record v { state = Holdover; first = None; kept = None; left_tick = v.ticks; phase = unlocked v.phase }
ended_in v SyncNsec = record v { state = SyncTai; first = None; kept = None }
ended_in v SyncPhase = record v { state = SyncTai; first = None; kept = None }
ended_in v WaitStable = record v { state = SyncTai; first = None; kept = None }
ended_in v _ = record v { first = None; kept = None }

-- the chain ends, if there is one
abbrev pub ended : Core → Core
ended v = cond (is_some v.first) (ended_in v v.state) v

-- outside HOLDOVER the state is UNINIT
abbrev pub uninit_outside_holdover : Core → ServoState → Core
uninit_outside_holdover v Holdover = v
uninit_outside_holdover v _ = record v { state = Uninit }

-- outside HOLDOVER the loop restarts
abbrev pub restarted_outside_holdover : Core → ServoState → Core
restarted_outside_holdover v Holdover = v
restarted_outside_holdover v _ = record v { phase = restarted v.phase }

-- the servo after a reset: all but its settings is as in a new one
abbrev pub by_reset : Core → Core
by_reset v = new_core v.set

-- the servo with this word on the carrier noted, and nothing else changed
abbrev pub with_carrier : Core → Bool → Core
with_carrier v up = record v { signals = record v.signals { carrier = up } }

-- a carrier that went: the lock detector restarts
abbrev pub carrier_gone : Core → Core
carrier_gone v = record (with_carrier v false) { phase = unlocked v.phase }

-- the servo after a word on the carrier. It came: outside HOLDOVER the loop restarts. It went: the lock detector restarts, the
-- chain ends, which makes HOLDOVER of TRACK, and then each state but HOLDOVER becomes UNINIT
abbrev pub by_carrier : Core → Bool → Core
by_carrier v true = restarted_outside_holdover (with_carrier v true) v.state
by_carrier v false = uninit_outside_holdover (ended (carrier_gone v)) (ended (carrier_gone v)).state

-- the servo with this word on the link noted: its fixed delays if it is on, None if it is off
abbrev pub with_link : Core → Option Deltas → Core
with_link v on = record v { signals = record v.signals { link = on } }

-- the link is on: UNINIT goes to SYNC_TAI, and each other state stays
abbrev pub linked : Core → ServoState → Core
linked v Uninit = record v { state = SyncTai }
linked v _ = v

-- the servo after a word on the link. On: UNINIT goes to SYNC_TAI. Off: the chain ends, which makes HOLDOVER of TRACK,
-- and then each state but HOLDOVER becomes UNINIT
abbrev pub by_link : Core → Option Deltas → Core
by_link v (Some d) = linked (with_link v (Some d)) v.state
by_link v None = uninit_outside_holdover (ended (with_link v None)) (ended (with_link v None)).state

-- the servo with this word on the lease noted, and nothing else changed
abbrev pub with_lease : Core → Bool → Core
with_lease v fresh = record v { signals = record v.signals { lease = fresh } }

-- the servo after a word on the lease: if it lapsed, the chain ends
abbrev pub by_lease : Core → Bool → Core
by_lease v true = with_lease v true
by_lease v false = ended (with_lease v false)

-- a tick in HOLDOVER: at the last one the loop restarts
abbrev pub holdover_ticked : Core → Core
holdover_ticked v =
    cond (nat_le v.set.holdover (v.ticks - v.left_tick))
    (record v { state = cond (is_some v.signals.link) SyncTai Uninit; phase = restarted v.phase })
    v

-- too many ticks since the last good sample
abbrev pub is_past_gap : Core → Bool
is_past_gap v = nat_lt v.set.gap (v.ticks - v.good_tick)

-- the chain ends if more than `gap` ticks passed since the last good sample
abbrev pub ended_by_gap : Core → Core
ended_by_gap v = cond (is_past_gap v) (ended v) v

-- the four is too old
abbrev pub too_old : ℕ → ℕ → Option Measurement → Bool
too_old age ticks None = false
too_old age ticks (Some k) = nat_lt age (ticks - k.four.tick)

-- the kept four is more than `age` ticks old; without a four this is false
abbrev pub is_old : Core → Bool
is_old v = too_old v.set.age v.ticks v.kept

-- the state is TRACK
abbrev pub is_track : ServoState → Bool
is_track Track = true
is_track _ = false

-- in TRACK the chain ends, which enters HOLDOVER, if the four is too old
abbrev pub ended_by_age : Core → Core
ended_by_age v = cond (is_track v.state && is_old v) (ended v) v

-- what a tick that was counted does, by the state: HOLDOVER may be over; elsewhere the chain may end, by the gap first and then
-- by the age of the four
abbrev pub ticked_in : Core → ServoState → Core
ticked_in v Holdover = holdover_ticked v
ticked_in v _ = ended_by_age (ended_by_gap v)

-- the servo with one more tick counted
abbrev pub one_tick : Core → Core
one_tick v = record v { ticks = v.ticks + 1 }

-- the servo after a tick: it is counted, and then the state acts on it
abbrev pub by_tick : Core → Core
by_tick v = ticked_in (one_tick v) v.state
