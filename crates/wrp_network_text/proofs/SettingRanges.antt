-- The numbers of the network of a text whose tables are taken are in their ranges.
use Rattle.std.proofs.Common.{◌≡◌, ◌≤◌, ℕ, ℤ, List, false, lit≤}
use Rattle.std.specs.Prelude.{codes}
use Rattle.toml.specs.Data.{Members, get_member}
use Rattle.wrp_network.specs.declared.configuration.NetCfg.{NetCfg}
use Rattle.wrp_base.specs.Ranges.{IsFromTo}
use Rattle.wrp_caldb.specs.Database.{number_at}
use Rattle.wrp_caldb.specs.declared.place.At.TheVariants as tables
use Rattle.wrp_caldb.specs.declared.row.Code.TheVariants as co
use Rattle.wrp_calibration_text.proofs.Kept.{at_fault}
use Rattle.wrp_network_text.specs.Config.{IsNetworkOf}
use Rattle.wrp_network_text.specs.Keys.{number, network_keys, network_in}
use Rattle.wrp_network_text.specs.Places.{IsTaken}
use Rattle.wrp_network_text.proofs.Numbers.{number_between}
use Rattle.wrp_network_text.proofs.Taken.{parts_of, no_faults}

-- the numbers of `network`
pub record HasSettingRanges (net : NetCfg) : Type 0 where
  pub epoch : IsFromTo 1000000 34359738368 net.epoch
  pub domain : IsFromTo 0 255 net.domain
  pub dmin_ns : IsFromTo 1000 1000000000 net.dmin_ns
  pub dmax_ns : IsFromTo 1000 1000000000 net.dmax_ns
  pub life_ns : IsFromTo 1 10000000000 net.life_ns
  pub reach_ns : IsFromTo 1 1000000000 net.reach_ns
  pub quiet : IsFromTo 2 1000000 net.quiet
  pub holdover : IsFromTo 2 1000000 net.holdover
  pub wait : IsFromTo 1 1000000 net.wait
  pub lock_wait : IsFromTo 1 1000000 net.lock_wait
  pub holdoff : IsFromTo 1 1000000 net.holdoff
  pub lease : IsFromTo 1 1000000 net.lease
  pub age : IsFromTo 1 1000000 net.age
  pub report : IsFromTo 1 1000000 net.report
  pub stable : IsFromTo 1 1000000 net.stable
  pub lock_samples : IsFromTo 1 1000000 net.lock_samples
  pub retries : IsFromTo 0 100 net.retries
  pub gap : IsFromTo 1 100 net.gap
  pub announce : IsFromTo 1 10000 net.announce
  pub sync : IsFromTo 1 10000 net.sync
  pub delay : IsFromTo 1 10000 net.delay
  pub ring : IsFromTo 1 4096 net.ring
  pub track_tau : IsFromTo 1 1000000000 net.track_tau
  pub loop_tau : IsFromTo 1 1000000000 net.loop_tau
  pub phase_step : IsFromTo 1 1000000000 net.phase_step
  pub kp : IsFromTo 0 65535 net.kp
  pub ki : IsFromTo 0 65535 net.ki
  pub bias : IsFromTo 0 65535 net.bias
  pub threshold : IsFromTo 1 1048576 net.threshold
  pub delock_samples : IsFromTo 0 1000000 net.delock_samples

-- the number of a row without a fault
fit : (t : Members) (name : List ℕ) (least greatest default : ℕ) → least ≤ default → default ≤ greatest
    → at_fault co.Range t (number name least greatest default) ≡ false
    → (z : ℤ) → z ≡ number_at (number name least greatest default) t → IsFromTo least greatest z
fit t name least greatest default low high none z is =
    rw is (number_between name least greatest default low high (get_member name t) none)

pub setting_ranges : (doc : Members) (cfg : NetCfg) → IsTaken doc → IsNetworkOf doc cfg → HasSettingRanges cfg
setting_ranges doc cfg taken is =
    let t = network_in doc in
    let f0 = no_faults co.Range tables.Network network_keys t (parts_of doc taken co.Range).network in
    let f1 = f0.1 in
    let f2 = f1.1 in
    let f3 = f2.1 in
    let f4 = f3.1 in
    let f5 = f4.1 in
    let f6 = f5.1 in
    let f7 = f6.1 in
    let f8 = f7.1 in
    let f9 = f8.1 in
    let f10 = f9.1 in
    let f11 = f10.1 in
    let f12 = f11.1 in
    let f13 = f12.1 in
    let f14 = f13.1 in
    let f15 = f14.1 in
    let f16 = f15.1 in
    let f17 = f16.1 in
    let f18 = f17.1 in
    let f19 = f18.1 in
    let f20 = f19.1 in
    let f21 = f20.1 in
    let f22 = f21.1 in
    let f23 = f22.1 in
    let f24 = f23.1 in
    let f25 = f24.1 in
    let f26 = f25.1 in
    let f27 = f26.1 in
    let f28 = f27.1 in
    let f29 = f28.1 in
    record {
      epoch = fit t (codes "epoch") 1000000 34359738368 1000000 (lit≤ tt) (lit≤ tt) f0.0 cfg.epoch is.epoch;
      domain = fit t (codes "domain") 0 255 0 (lit≤ tt) (lit≤ tt) f1.0 cfg.domain is.domain;
      dmin_ns = fit t (codes "dmin_ns") 1000 1000000000 9000000 (lit≤ tt) (lit≤ tt) f2.0 cfg.dmin_ns is.dmin_ns;
      dmax_ns = fit t (codes "dmax_ns") 1000 1000000000 11000000 (lit≤ tt) (lit≤ tt) f3.0 cfg.dmax_ns is.dmax_ns;
      life_ns = fit t (codes "life_ns") 1 10000000000 100000000 (lit≤ tt) (lit≤ tt) f4.0 cfg.life_ns is.life_ns;
      reach_ns = fit t (codes "reach_ns") 1 1000000000 100000 (lit≤ tt) (lit≤ tt) f5.0 cfg.reach_ns is.reach_ns;
      quiet = fit t (codes "quiet") 2 1000000 24 (lit≤ tt) (lit≤ tt) f6.0 cfg.quiet is.quiet;
      holdover = fit t (codes "holdover") 2 1000000 320 (lit≤ tt) (lit≤ tt) f7.0 cfg.holdover is.holdover;
      wait = fit t (codes "wait") 1 1000000 30 (lit≤ tt) (lit≤ tt) f8.0 cfg.wait is.wait;
      lock_wait = fit t (codes "lock_wait") 1 1000000 1500 (lit≤ tt) (lit≤ tt) f9.0 cfg.lock_wait is.lock_wait;
      holdoff = fit t (codes "holdoff") 1 1000000 300 (lit≤ tt) (lit≤ tt) f10.0 cfg.holdoff is.holdoff;
      lease = fit t (codes "lease") 1 1000000 250 (lit≤ tt) (lit≤ tt) f11.0 cfg.lease is.lease;
      age = fit t (codes "age") 1 1000000 300 (lit≤ tt) (lit≤ tt) f12.0 cfg.age is.age;
      report = fit t (codes "report") 1 1000000 100 (lit≤ tt) (lit≤ tt) f13.0 cfg.report is.report;
      stable = fit t (codes "stable") 1 1000000 50 (lit≤ tt) (lit≤ tt) f14.0 cfg.stable is.stable;
      lock_samples = fit t (codes "lock_samples") 1 1000000 100 (lit≤ tt) (lit≤ tt) f15.0 cfg.lock_samples is.lock_samples;
      retries = fit t (codes "retries") 0 100 3 (lit≤ tt) (lit≤ tt) f16.0 cfg.retries is.retries;
      gap = fit t (codes "gap") 1 100 2 (lit≤ tt) (lit≤ tt) f17.0 cfg.gap is.gap;
      announce = fit t (codes "announce") 1 10000 100 (lit≤ tt) (lit≤ tt) f18.0 cfg.announce is.announce;
      sync = fit t (codes "sync") 1 10000 25 (lit≤ tt) (lit≤ tt) f19.0 cfg.sync is.sync;
      delay = fit t (codes "delay") 1 10000 25 (lit≤ tt) (lit≤ tt) f20.0 cfg.delay is.delay;
      ring = fit t (codes "ring") 1 4096 64 (lit≤ tt) (lit≤ tt) f21.0 cfg.ring is.ring;
      track_tau = fit t (codes "track_tau") 1 1000000000 3276800 (lit≤ tt) (lit≤ tt) f22.0 cfg.track_tau is.track_tau;
      loop_tau = fit t (codes "loop_tau") 1 1000000000 3276800 (lit≤ tt) (lit≤ tt) f23.0 cfg.loop_tau is.loop_tau;
      phase_step = fit t (codes "phase_step") 1 1000000000 100000 (lit≤ tt) (lit≤ tt) f24.0 cfg.phase_step is.phase_step;
      kp = fit t (codes "kp") 0 65535 125 (lit≤ tt) (lit≤ tt) f25.0 cfg.kp is.kp;
      ki = fit t (codes "ki") 0 65535 5 (lit≤ tt) (lit≤ tt) f26.0 cfg.ki is.ki;
      bias = fit t (codes "bias") 0 65535 32768 (lit≤ tt) (lit≤ tt) f27.0 cfg.bias is.bias;
      threshold = fit t (codes "threshold") 1 1048576 6400 (lit≤ tt) (lit≤ tt) f28.0 cfg.threshold is.threshold;
      delock_samples = fit t (codes "delock_samples") 0 1000000 50 (lit≤ tt) (lit≤ tt) f29.0 cfg.delock_samples is.delock_samples;
    }
