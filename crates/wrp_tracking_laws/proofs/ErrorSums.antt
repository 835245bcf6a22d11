-- The error sum of one hop, from its small steps.
use Rattle.std.proofs.Common.{ℕ, ℤ, pos, ◌+◌, ◌*◌, ◌≤◌, ◌^◌, ◌+ℤ◌, ◌-ℤ◌}
use Rattle.wrp_base.specs.declared.measurement.Four.{Four}
use Rattle.wrp_base.specs.declared.link.Deltas.{Deltas}
use Rattle.wrp_base.specs.Closeness.{IsWithin}
use Rattle.wrp_bounds.specs.declared.numbers.HopNumbers.{HopNumbers}
use Rattle.wrp_bounds.specs.Hop.{detector_error, gap_motion, down_error, up_error, age_motion, both_ways_error, scaled_error, estimate_error}
use Rattle.wrp_servo.specs.Measuring.{x_of}
use Rattle.wrp_tracking_laws.specs.Moment.{Moment, phase_at, ways_at}
use Rattle.wrp_tracking_laws.specs.ErrorSum.{sync_sum, estimate_of, FibreHolds, FourFacts, EstimateIsNear, HopSum}
use Rattle.wrp_tracking_laws.proofs.Sums.{two_sides, four_delays, both_ways, law_scaled, estimated, way_down, ways_sum, regrouped, renamed, limited}
use Rattle.wrp_tracking_laws.proofs.Sides.{phase_moved}

-- the sum of the delays of the four ports
abbrev ports_sum : Deltas → ℤ
ports_sum d = ((pos d.txm +ℤ pos d.rxs) +ℤ pos d.txs) +ℤ pos d.rxm

-- both ways of the fibre now, as the law's argument gives them
argument_near : (hop : HopNumbers) (constant : ℤ) (four : Four) (deltas : Deltas) (now : Moment) → FourFacts hop constant four now → (fibre : FibreHolds hop now deltas) →
    IsWithin (both_ways_error hop) (x_of deltas four) (fibre.down_fibre +ℤ fibre.up_fibre)
argument_near hop constant four deltas now stamps fibre =
    both_ways (((four.t2 -ℤ four.t1) -ℤ four.u2) +ℤ ((four.t4 -ℤ four.t3) +ℤ four.u3)) stamps.ways (ways_at now) (ports_sum deltas) (ports_sum fibre.ports) (fibre.down_fibre +ℤ fibre.up_fibre)
    (down_error hop + up_error hop) (4 * hop.e_db) (age_motion hop)
    (two_sides four.t1 four.t2 four.t3 four.t4 four.u2 four.u3 constant stamps.ways (down_error hop) (up_error hop) stamps.sync stamps.delay)
    stamps.moved (ways_sum now.down now.up (pos fibre.ports.txm) (pos fibre.ports.rxs) (pos fibre.ports.txs) (pos fibre.ports.rxm) fibre.down_fibre fibre.up_fibre fibre.down fibre.up)
    (four_delays (pos deltas.txm) (pos deltas.rxs) (pos deltas.txs) (pos deltas.rxm) (pos fibre.ports.txm) (pos fibre.ports.rxs) (pos fibre.ports.txs) (pos fibre.ports.rxm) hop.e_db
    fibre.database.txm fibre.database.rxs fibre.database.txs fibre.database.rxm)

-- the error of the estimate, its parts in another order
estimate_sum : (hop : HopNumbers) →
    down_error hop + detector_error hop + gap_motion hop + ((scaled_error hop + hop.law_err + hop.e_asym) + 2 * hop.e_db) ≤ estimate_error hop
estimate_sum hop = regrouped (down_error hop) (detector_error hop) (gap_motion hop) (scaled_error hop) hop.law_err hop.e_asym hop.e_db (age_motion hop)

pub estimate-near : EstimateIsNear
estimate-near hop constant four deltas y u sampled now facts =
    let fibre : FibreHolds hop now deltas = facts.fibre in
    let law : ℕ = scaled_error hop + hop.law_err + hop.e_asym in
    let delay : ℤ = (pos deltas.txm +ℤ pos deltas.rxs) +ℤ y in
    let share : IsWithin (scaled_error hop + hop.law_err + hop.e_asym) y fibre.down_fibre =
    law_scaled (x_of deltas four) y (fibre.down_fibre +ℤ fibre.up_fibre) fibre.down_fibre (pos (2 ^ 39) +ℤ hop.kappa) (both_ways_error hop) hop.law_err hop.e_asym
    facts.answer fibre.asymmetry (argument_near hop constant four deltas now facts.stamps fibre) in
    let way : IsWithin (law + 2 * hop.e_db) delay ((pos fibre.ports.txm +ℤ fibre.down_fibre) +ℤ pos fibre.ports.rxs) =
    way_down (pos deltas.txm) (pos deltas.rxs) (pos fibre.ports.txm) (pos fibre.ports.rxs) y fibre.down_fibre hop.e_db law fibre.database.txm fibre.database.rxs share in
    let true_way : IsWithin (law + 2 * hop.e_db) delay now.down = rw fibre.down way in
    let near : IsWithin (down_error hop + detector_error hop + gap_motion hop + (law + 2 * hop.e_db)) ((u -ℤ sync_sum four) -ℤ delay) (phase_at now -ℤ now.down) =
    estimated u (phase_at sampled) (phase_at now) now.down delay (sync_sum four) constant (detector_error hop) (gap_motion hop) (down_error hop) (law + 2 * hop.e_db)
    facts.stamps.sync facts.phase.phase (phase_moved hop sampled now facts.phase.wait facts.phase.since facts.phase.near) true_way in
    renamed u four.t1 four.t2 four.u2 delay now.own now.parent now.down (down_error hop + detector_error hop + gap_motion hop + (law + 2 * hop.e_db)) (estimate_error hop) near (estimate_sum hop)

pub hop-sum : HopSum
hop-sum hop constant four deltas y u loop_error sampled now facts limits =
    limited (estimate_of deltas four y u) loop_error now.own now.parent (estimate_error hop) hop.track_tau hop.loop_tau
    (estimate-near hop constant four deltas y u sampled now facts) limits.loop_limit limits.track_limit
