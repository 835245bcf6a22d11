-- Half of what the round trip leaves open bounds the offset.
use Rattle.std.proofs.Common.{ℕ, ℤ, pos, ◌+◌, ◌*◌, ◌≤◌, ◌≤ℤ◌, ◌<ℤ◌, ◌+ℤ◌, ◌-ℤ◌, ◌*ℤ◌, neg_ℤ, unsigned_abs, arith}
use Rattle.std.proofs.lemmas.Int.{ints}
use Rattle.wrp_base.specs.Division.{floor_quotient, ceil_quotient}
use Rattle.wrp_base.proofs.DivisionLaws.{floor_quotient-at_most, floor_quotient-next}
use Rattle.wrp_plain.specs.Measurement.{exchange_move, round_of, est_of, base_of}
use Rattle.wrp_plain.specs.Truth.{MeasuredWithinBound}

-- both sides of a bound
two_sides : (a : ℤ) (n : ℕ) → unsigned_abs a ≤ n → (neg_ℤ (pos n) ≤ℤ a) × (a ≤ℤ pos n)
two_sides a n h = (omega (arith, ints), omega (arith, ints))

within : (a b : ℤ) → a ≤ℤ b → neg_ℤ b ≤ℤ a → pos (unsigned_abs a) ≤ℤ b
within a b h k = omega (arith, ints)

-- the round trip is not short
long_enough : (v e : ℕ) (least off dms dsm o2 o3 down up : ℤ) → least ≤ℤ dms → least ≤ℤ dsm →
    (o2 -ℤ off) ≤ℤ pos v → neg_ℤ (pos v) ≤ℤ (o2 -ℤ off) → (o3 -ℤ off) ≤ℤ pos v → neg_ℤ (pos v) ≤ℤ (o3 -ℤ off) →
    neg_ℤ (pos (2 * e)) ≤ℤ ((down -ℤ dms) -ℤ o2) → neg_ℤ (pos (2 * e)) ≤ℤ ((up -ℤ dsm) +ℤ o3) →
    (((pos 2 *ℤ least) -ℤ pos (2 * v)) -ℤ pos (4 * e)) ≤ℤ (down +ℤ up)
long_enough v e least off dms dsm o2 o3 down up h1 h2 h3 h4 h5 h6 h7 h8 = omega (arith, ints)

-- the estimate is not too high
not_above : (v e : ℕ) (least off dms dsm o2 o3 down up est half : ℤ) → least ≤ℤ dsm →
    (o2 -ℤ off) ≤ℤ pos v → neg_ℤ (pos v) ≤ℤ (o2 -ℤ off) → (o3 -ℤ off) ≤ℤ pos v → neg_ℤ (pos v) ≤ℤ (o3 -ℤ off) →
    neg_ℤ (pos (2 * e)) ≤ℤ ((down -ℤ dms) -ℤ o2) → ((down -ℤ dms) -ℤ o2) ≤ℤ pos (2 * e) →
    neg_ℤ (pos (2 * e)) ≤ℤ ((up -ℤ dsm) +ℤ o3) → ((up -ℤ dsm) +ℤ o3) ≤ℤ pos (2 * e) →
    (pos 2 *ℤ est) ≤ℤ (down -ℤ up) → (down +ℤ up) ≤ℤ (pos 2 *ℤ half) →
    (est -ℤ off) ≤ℤ ((half -ℤ least) +ℤ pos (2 * v + 4 * e + 1))
not_above v e least off dms dsm o2 o3 down up est half h1 h2 h3 h4 h5 h6 h7 h8 h9 h10 h11 = omega (arith, ints)

-- nor too low
not_below : (v e : ℕ) (least off dms dsm o2 o3 down up est half : ℤ) → least ≤ℤ dms →
    (o2 -ℤ off) ≤ℤ pos v → neg_ℤ (pos v) ≤ℤ (o2 -ℤ off) → (o3 -ℤ off) ≤ℤ pos v → neg_ℤ (pos v) ≤ℤ (o3 -ℤ off) →
    neg_ℤ (pos (2 * e)) ≤ℤ ((down -ℤ dms) -ℤ o2) → ((down -ℤ dms) -ℤ o2) ≤ℤ pos (2 * e) →
    neg_ℤ (pos (2 * e)) ≤ℤ ((up -ℤ dsm) +ℤ o3) → ((up -ℤ dsm) +ℤ o3) ≤ℤ pos (2 * e) →
    (down -ℤ up) <ℤ (pos 2 *ℤ est +ℤ pos 2) → (down +ℤ up) ≤ℤ (pos 2 *ℤ half) →
    neg_ℤ ((half -ℤ least) +ℤ pos (2 * v + 4 * e + 1)) ≤ℤ (est -ℤ off)
not_below v e least off dms dsm o2 o3 down up est half h1 h2 h3 h4 h5 h6 h7 h8 h9 h10 h11 = omega (arith, ints)

opposite_half : (a q : ℤ) → (pos 2 *ℤ q) ≤ℤ neg_ℤ a → a ≤ℤ (pos 2 *ℤ neg_ℤ q)
opposite_half a q h = omega (arith, ints)

pub measured_within_bound_holds : MeasuredWithinBound
measured_within_bound_holds set off true t1 t2 t3 t4 keeps =
    let v : ℕ = exchange_move set in
    let down : ℤ = t2 -ℤ t1 in
    let up : ℤ = t4 -ℤ t3 in
    let two : pos 0 <ℤ pos 2 = omega (arith, ints) in
    let m2 = two_sides (true.o2 -ℤ off) v keeps.moved_down in
    let m3 = two_sides (true.o3 -ℤ off) v keeps.moved_up in
    let s2 = two_sides ((down -ℤ true.dms) -ℤ true.o2) (2 * set.err) keeps.stamps_down in
    let s4 = two_sides ((up -ℤ true.dsm) +ℤ true.o3) (2 * set.err) keeps.stamps_up in
    let est : ℤ = est_of t1 t2 t3 t4 in
    let half : ℤ = ceil_quotient (down +ℤ up) (pos 2) in
    let rounded = opposite_half (down +ℤ up) (floor_quotient (neg_ℤ (down +ℤ up)) (pos 2)) (floor_quotient-at_most (neg_ℤ (down +ℤ up)) (pos 2) two) in (
      long_enough v set.err set.least off true.dms true.dsm true.o2 true.o3 down up keeps.least_down keeps.least_up m2.1 m2.0 m3.1 m3.0 s2.0 s4.0,
      within (est -ℤ off) (base_of set (round_of t1 t2 t3 t4))
          (not_above v set.err set.least off true.dms true.dsm true.o2 true.o3 down up est half keeps.least_up m2.1 m2.0 m3.1 m3.0 s2.0 s2.1 s4.0 s4.1
          (floor_quotient-at_most (down -ℤ up) (pos 2) two) rounded)
          (not_below v set.err set.least off true.dms true.dsm true.o2 true.o3 down up est half keeps.least_down m2.1 m2.0 m3.1 m3.0 s2.0 s2.1 s4.0 s4.1
          (floor_quotient-next (down -ℤ up) (pos 2) two) rounded),
    )
