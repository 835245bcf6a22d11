-- A servo outside TRACK and HOLDOVER, whose calls are written out: it is in SYNC_NSEC, and commands a step back (this
-- project's profile). This shows that the laws need their states: with that step the node's local time falls.
use Rattle.std.specs.Prelude.{◌≡◌, ◌^◌, ℕ, pos, neg_ℤ, true, Some, List, [], ◌∷◌}
use Rattle.wrp_base.specs.declared.link.Deltas.{Deltas}
use Rattle.wrp_base.specs.declared.link.ServoState.TheVariants.{SyncNsec}
use Rattle.wrp_base.specs.declared.measurement.Four.{Four}
use Rattle.wrp_base.specs.declared.time.Clock.TheVariants.{Mhz125}
use Rattle.wrp_servo.specs.Call.{Call, CallSample, CallMeasured, CallLease, CallLink, CallCarrier, ServoSetting, run}
use Rattle.wrp_servo.specs.Servo.{answer_to}

-- a servo whose lock detector locks at one sample, at a clock of 125 MHz
abbrev pub quick : ServoSetting
quick = record {
  set = record {
    holdover = 2;
    age = 10;
    stable = 1;
    gap = 100;
    lock_samples = 1;
    delock_samples = 0;
    threshold = 1_000;
    track_tau = pos 1_000_000;
    loop_tau = pos 1_000_000;
    phase_step = pos 1_000;
    kp = 0;
    ki = 0;
    bias = 32_768;
    clock = Mhz125;
  };
  lo = neg_ℤ (pos (2 ^ 30));
  hi = pos (2 ^ 53);
}

abbrev pub no_deltas : Deltas
no_deltas = record { txm = 0; rxm = 0; txs = 0; rxs = 0 }

-- 32 zeros and 32 ones
abbrev pub half_ones : ℕ
half_ones = 4_294_967_295

-- both ways take no time, and the slave is 2 * 524,288,000 tau ahead: two periods
abbrev pub two_ahead : Four
two_ahead = record {
  t1 = pos 0;
  t2 = pos 1_048_576_000;
  t3 = pos 1_048_576_000;
  t4 = pos 0;
  u2 = pos 0;
  u3 = pos 0;
  tick = 0;
}

-- the newest call first: the link is on, the lease fresh and the carrier there; a good sample locks the detector and starts a
-- chain; a measurement says that the slave is two periods ahead, and the servo steps, which brings it from SYNC_TAI to SYNC_NSEC;
-- and the next good sample starts a chain again
abbrev pub in_sync_nsec : List Call
in_sync_nsec =
    CallSample 2 0 half_ones ∷ CallMeasured two_ahead (pos 0) ∷ CallSample 1 0 half_ones ∷ CallCarrier true ∷ CallLease true
    ∷ CallLink (Some no_deltas) ∷ []

-- in SYNC_NSEC, given that the slave is two periods ahead, the servo commands a step of two periods back
pub record StepsBack : Type 0 where
  pub there : (run quick in_sync_nsec).state ≡ SyncNsec
  pub back : (answer_to quick (run quick in_sync_nsec) (CallMeasured two_ahead (pos 0))).cycles ≡ neg_ℤ (pos 2)
