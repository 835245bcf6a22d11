-- The numbers of a network that are in their ranges are read as they are, and a node can be set to them.
use Rattle.std.proofs.Common.{lit≤, ◌≡◌, ℕ, ℤ, pos, ◌<◌, ◌≤◌, ◌≤ℤ◌, ◌^◌, unsigned_abs, to_z, of_z, FitsSigned, ap, ◌∙◌, arith}
use Rattle.std.proofs.lemmas.Int.{ints, to_z-of_z}
use Rattle.std.specs.Int.{w64, w128}
use Rattle.wrp_network.specs.declared.configuration.NetCfg.{NetCfg}
use Rattle.wrp_network.specs.Network.{HasRanges, NamesNoPortTwice}
use Rattle.wrp_base.specs.Ranges.{IsFromTo}
use Rattle.wrp_node.specs.New.{FitsNodeSet}
use Rattle.wrp_node.specs.Set.{set_of}
use Rattle.wrp_node.proofs.OwnPorts.{different_numbers}

pub read_between : (least greatest : ℕ) (z : ℤ) → IsFromTo least greatest z → greatest < 2 ^ 62 → unsigned_abs (to_z w64 (of_z w64 z)) ≡ unsigned_abs z
read_between least greatest z range small =
    let fits : FitsSigned w64 z = omega (arith, ints) in
    ap unsigned_abs (to_z-of_z w64 z fits)

-- and so if it is read into a wider number
pub read_wide : (least greatest : ℕ) (z wide : ℤ) → IsFromTo least greatest z → greatest < 2 ^ 62 → wide ≡ to_z w64 (of_z w64 z) → to_z w128 (of_z w128 wide) ≡ z
read_wide least greatest z wide range small is =
    let fits : FitsSigned w64 z = omega (arith, ints) in
    let same : wide ≡ z = is ∙ to_z-of_z w64 z fits in
    let fits_wide : FitsSigned w128 z = omega (arith, ints) in
    ap (λ (x : ℤ). to_z w128 (of_z w128 x)) same ∙ to_z-of_z w128 z fits_wide

size_between : (least greatest : ℕ) (z : ℤ) → IsFromTo least greatest z → (least ≤ unsigned_abs z) × (unsigned_abs z ≤ greatest)
size_between least greatest z range = (omega (arith, ints), omega (arith, ints))

at_least_one : (least greatest : ℕ) (z : ℤ) → 1 ≤ least → IsFromTo least greatest z → 1 ≤ unsigned_abs z
at_least_one least greatest z positive range = omega (arith, (size_between least greatest z range).0)

below_2_30 : (least greatest : ℕ) (z : ℤ) → greatest ≤ 2 ^ 30 → IsFromTo least greatest z → z ≤ℤ pos (2 ^ 30)
below_2_30 least greatest z small range = omega (arith, ints)

pub fits_set : (net : NetCfg) (n : ℕ) → HasRanges net → NamesNoPortTwice net → unsigned_abs net.delock_samples < unsigned_abs net.lock_samples → FitsNodeSet (set_of net n)
fits_set net n ranges once counts = record {
  ports = record {
    quiet = at_least_one 2 1_000_000 net.quiet (omega arith) ranges.quiet;
    wait = at_least_one 1 1_000_000 net.wait (omega arith) ranges.wait;
    lock_wait = at_least_one 1 1_000_000 net.lock_wait (omega arith) ranges.lock_wait;
    announce = at_least_one 1 10_000 net.announce (omega arith) ranges.announce;
    sync = at_least_one 1 10_000 net.sync (omega arith) ranges.sync;
    delay = at_least_one 1 10_000 net.delay (omega arith) ranges.delay;
    lease = at_least_one 1 1_000_000 net.lease (omega arith) ranges.lease;
    ring_least = at_least_one 1 4_096 net.ring (omega arith) ranges.ring;
    ring_most = (size_between 1 4_096 net.ring ranges.ring).1;
  };
  servo = record {
    limits = record {
      track = below_2_30 1 1_000_000_000 net.track_tau (lit≤ tt) ranges.track_tau;
      loop = below_2_30 1 1_000_000_000 net.loop_tau (lit≤ tt) ranges.loop_tau;
      delock = counts;
    };
    least = omega (arith, ints, ranges.phase_step.0);
    most = below_2_30 1 1_000_000_000 net.phase_step (lit≤ tt) ranges.phase_step;
  };
  numbers = different_numbers net n once;
  report = at_least_one 1 1_000_000 net.report (omega arith) ranges.report;
}
